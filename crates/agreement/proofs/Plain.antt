-- Plain LRU with j + 1 frames holds the first j + 1 pages in the order of their last uses.
use Rattle.std.proofs.Common.{◌≡◌, ℕ, zero, suc, ◌+◌, ◌<◌, ◌≤◌, Bool, true, false, cond, eqb, ltb, ◌≢◌, List, [], ◌∷◌, length, get_or, take, sym, refl, ap, ◌∙◌, inl, inr, zero-le, add-one, arith}
use Rattle.std.proofs.lemmas.List.{length-take, take_all, take_more}
use Rattle.std.proofs.lemmas.Bool.{cases_lt, eq-eqb, ne_eqb}
use Rattle.lists.specs.Weights.{weigh, one, occ}
use Rattle.lists.specs.Places.{without}
use Rattle.lists.proofs.Weights.{eqb_cases, ltb_cases, weigh_push, weigh-without, without_none, occ-without}
use Rattle.model.specs.Lru.{since, staler_of, stalest, lru_used}
use Rattle.model.proofs.Uses.{slot_in}
use Rattle.lists.proofs.Weights.{weigh_ones}
use Rattle.agreement.proofs.Recency.{weigh_front, front_out, front_stays}

self : (x : ℕ) → one (eqb x x) ≡ 1
self x = rw (eq-eqb x x refl)

-- Each page of a list was used later than those behind it.
abbrev pub Rising : List ℕ → List ℕ → Type 0
Rising past [] = Unit {0}
Rising past (b ∷ bs) = ((q : ℕ) → 0 < occ q bs → since b past < since q past) × Rising past bs

module _ (past : List ℕ) where
  rising_first : (b : ℕ) (bs : List ℕ) → ((q : ℕ) → 0 < occ q bs → since b past < since q past) → occ b bs ≡ 0
  rising_first b bs h = elim (cases_lt 0 (occ b bs)) [ inl y ↦ absurd (omega (arith, h b y)) | inr n ↦ omega arith ]

  rising_once : (bs : List ℕ) → Rising past bs → (q : ℕ) → occ q bs ≤ 1
  rising_once [] h q = zero-le
  rising_once (b ∷ bs) h q = elim (eqb_cases b q) [
    | inl e ↦ rw e.1 (omega (arith, rw e.0 at (rising_first b bs h.0)))
    | inr m ↦ rw m.1 (omega (arith, rising_once bs h.1 q))
  ]

  fewer : (p q : ℕ) (bs : List ℕ) → occ q (without p bs) ≤ occ q bs
  fewer p q bs = elim (cases_lt 0 (occ p bs)) [
    | inl y ↦ omega (arith, weigh-without (λ x. one (eqb x q)) p bs y)
    | inr n ↦ omega (arith, ap (occ q) (without_none p bs (omega arith)))
  ]

  rising_without : (p : ℕ) (bs : List ℕ) → Rising past bs → Rising past (without p bs)
  rising_without p [] h = tt
  rising_without p (b ∷ bs) h = elim (eqb_cases b p) [
    | inl e ↦ rw e.1 h.1
    | inr m ↦ rw m.1 ((λ q y. h.0 q (omega (arith, y, fewer p q bs))), rising_without p bs h.1)
  ]

  -- a use of p ages every other page by one
  aged : (p q : ℕ) → p ≢ q → since q (p ∷ past) ≡ suc (since q past)
  aged p q ne = rw (ne_eqb p q ne)

  apart : (p q : ℕ) (bs : List ℕ) → occ p bs ≡ 0 → 0 < occ q bs → p ≢ q
  apart p q bs z y e = omega (arith, rw e at z)

  rising_older : (p : ℕ) (bs : List ℕ) → occ p bs ≡ 0 → Rising past bs → Rising (p ∷ past) bs
  rising_older p [] z h = tt
  rising_older p (b ∷ bs) z h = (later, rising_older p bs (omega (arith, z)) h.1) where
    later : (q : ℕ) → 0 < occ q bs → since b (p ∷ past) < since q (p ∷ past)
    later q y = omega (arith, h.0 q y, aged p b (apart p b (b ∷ bs) z (omega (arith, self b))), aged p q (apart p q (b ∷ bs) z (omega (arith, y))))

  rising_used : (p : ℕ) (bs : List ℕ) → Rising past bs → Rising (p ∷ past) (p ∷ without p bs)
  rising_used p bs h = (later, rising_older p (without p bs) out (rising_without p bs h)) where
    out : occ p (without p bs) ≡ 0
    out = rw (eq-eqb p p refl) at (occ-without p p bs (rising_once bs h p))

    later : (q : ℕ) → 0 < occ q (without p bs) → since p (p ∷ past) < since q (p ∷ past)
    later q y = rw (eq-eqb p p refl) (omega (arith, aged p q (apart p q (without p bs) out y)))

  -- Those before a place were used later than the page at that place.
  rising_at : (j q : ℕ) (bs : List ℕ) → Rising past bs → j < length bs → 0 < occ q (take j bs) → since q past < since (get_or bs j 0) past
  rising_at j q [] h lt y = absurd (omega arith)
  rising_at zero q (b ∷ bs) h lt y = absurd (omega arith)
  rising_at (suc j) q (b ∷ bs) h lt y = elim (eqb_cases b q) [
    | inl e ↦ rw (← e.0) (h.0 (get_or bs j 0) (slot_in bs j (omega arith)))
    | inr m ↦ rising_at j q bs h.1 (omega arith) (omega (arith, rw m.1 at y))
  ]

  -- The stalest page is one of those held, and no other's last use is longer past.
  staler_in : (a : ℕ) (bs : List ℕ) → 0 < occ (staler_of past a bs) (a ∷ bs)
  staler_in a [] = omega (arith, self a)
  staler_in a (b ∷ bs) =
      omega (arith, staler_in (cond (ltb (since a past) (since b past)) b a) bs, either (ltb (since a past) (since b past)) (staler_of past (cond (ltb (since a past) (since b past)) b a) bs)) where
        either : (t : Bool) (s : ℕ) → one (eqb (cond t b a) s) ≤ one (eqb a s) + one (eqb b s)
        either true s = omega arith
        either false s = omega arith

  staler_most : (a : ℕ) (bs : List ℕ) (q : ℕ) → 0 < occ q (a ∷ bs) → since q past ≤ since (staler_of past a bs) past
  staler_most a [] q h = elim (eqb_cases a q) [
    | inl e ↦ rw e.0 (omega arith)
    | inr m ↦ absurd (omega (arith, rw m.1 at h))
  ]
  staler_most a (b ∷ bs) q h =
      let c = cond (ltb (since a past) (since b past)) b a in
      let top = staler_most c bs c (omega (arith, self c)) in
      elim (eqb_cases a q) [
        | inl e ↦ omega (arith, top, ap (λ x. since x past) e.0, both.0)
        | inr m ↦ elim (eqb_cases b q) [
          | inl f ↦ omega (arith, top, ap (λ x. since x past) f.0, both.1)
          | inr g ↦ staler_most c bs q (omega (arith, rw (m.1, g.1) at h))
        ]
      ] where
        both : (since a past ≤ since (cond (ltb (since a past) (since b past)) b a) past) × (since b past ≤ since (cond (ltb (since a past) (since b past)) b a) past)
        both = elim (ltb_cases (since a past) (since b past)) [
          | inl y ↦ rw y.1 (omega (arith, y.0), omega arith)
          | inr n ↦ rw n.1 (omega arith, omega (arith, n.0))
        ]

  stalest_in : (held : List ℕ) → 0 < length held → 0 < occ (stalest past held) held
  stalest_in [] h = absurd (omega arith)
  stalest_in (b ∷ bs) h = staler_in b bs

  stalest_most : (held : List ℕ) (q : ℕ) → 0 < occ q held → since q past ≤ since (stalest past held) past
  stalest_most [] q h = absurd (omega arith)
  stalest_most (b ∷ bs) q h = staler_most b bs q h

-- Plain LRU with j + 1 frames holds h after the uses of the past: as many and the same pages as the first j + 1 of the recent.
pub record Plain (j : ℕ) (past held recent : List ℕ) : Type 0 where
  pub rising : Rising past recent
  pub same : (f : ℕ → ℕ) → weigh f held ≡ weigh f (take (suc j) recent)

pub plain_fresh : (j : ℕ) → Plain j [] [] []
plain_fresh j = record { rising = tt; same = λ f. refl }

module _ (j : ℕ) (past held recent : List ℕ) (c : Plain j past held recent) where
  long : length held ≡ length (take (suc j) recent)
  long = omega (arith, weigh_ones held, c.same (λ x. 1), weigh_ones (take (suc j) recent))

  last_weight : j < length recent → (f : ℕ → ℕ) → weigh f (take (suc j) recent) ≡ weigh f (take j recent) + f (get_or recent j 0)
  last_weight lt f = ap (λ i. weigh f (take i recent)) (sym (add-one j)) ∙ ap (weigh f) (take_more recent j 0 lt) ∙ weigh_push f (take j recent) (get_or recent j 0)

  -- Full frames give up the last of the first j + 1.
  given_up : j < length recent → stalest past held ≡ get_or recent j 0
  given_up lt = elim (eqb_cases (get_or recent j 0) (stalest past held)) [
    | inl e ↦ sym e.0
    | inr m ↦ absurd (omega (arith, rising_at past j (stalest past held) recent c.rising lt (before m.1), stalest_most past held (get_or recent j 0) last))
  ] where
    last : 0 < occ (get_or recent j 0) held
    last = omega (arith, c.same (λ x. one (eqb x (get_or recent j 0))), last_weight lt (λ x. one (eqb x (get_or recent j 0))), self (get_or recent j 0))

    before : eqb (get_or recent j 0) (stalest past held) ≡ false → 0 < occ (stalest past held) (take j recent)
    before m = omega (arith, stalest_in past held (omega (arith, long, length-take (suc j) recent)), c.same (λ x. one (eqb x (stalest past held))), rw m at (last_weight lt (λ x. one (eqb x (stalest past held)))))

  pub plain_used : (p : ℕ) → Plain j (p ∷ past) (lru_used (suc j) past p held) (p ∷ without p recent)
  plain_used p = record { rising = rising_used past p recent c.rising; same = weights } where
    weights : (f : ℕ → ℕ) → weigh f (lru_used (suc j) past p held) ≡ f p + weigh f (take j (without p recent))
    weights f = elim (ltb_cases 0 (occ p held)) [
      | inl h ↦ let y : 0 < occ p (take (suc j) recent) = omega (arith, h.0, c.same (λ x. one (eqb x p))) in rw (h.1, front_out j p recent y) (omega (arith, c.same f, weigh-without f p (take (suc j) recent) y))
      | inr h ↦ let z : occ p (take j recent) ≡ 0 = omega (arith, h.0, c.same (λ x. one (eqb x p)), weigh_front (λ x. one (eqb x p)) j recent) in rw (h.1, front_stays j p recent z) (elim (ltb_cases (length held) (suc j)) [
        | inl y ↦ let short : length recent ≤ j = omega (arith, y.0, long, length-take (suc j) recent) in rw y.1 (omega (arith, c.same f, ap (weigh f) (take_all j recent short), ap (weigh f) (take_all (suc j) recent (omega arith))))
        | inr m ↦ let lt : j < length recent = omega (arith, m.0, long, length-take (suc j) recent) in rw m.1 (omega (arith, c.same f, last_weight lt f, ap f (given_up lt), weigh-without f (stalest past held) held (stalest_in past held (omega (arith, m.0)))))
      ])
    ]
