-- The two parts and the table still stand for the order after each move.
use Rattle.std.proofs.Common.{◌≡◌, ℕ, ◌+◌, ◌<◌, ◌≤◌, true, false, cond, eqb, ltb, ◌≢◌, List, [], ◌∷◌, ◌++◌, length, get_or, set, Some, None, Option, sym, refl, ap, ◌∙◌, inl, inr, arith}
use Rattle.std.proofs.lemmas.List.{length-set, get_or-set_same, get_or-set_other, get_or_past}
use Rattle.std.proofs.lemmas.Bool.{true≢false, cases_lt, lt-ltb, le-ltb, ltb-false, eq-eqb, eqb-true, ne_eqb}
use Rattle.std.specs.Option.{MatchOption, option_eq}
use denote.Enum.Bare.{sameb, same_true, same_false}
use Rattle.links.specs.contracts.Part.{the_type}
use Rattle.std.specs.List.{position, position_or_len}
use Rattle.std.proofs.lemmas.List.Sums.{passes_at_first, fails_before_first}
use Rattle.lists.specs.Weights.{one, occ, has}
use Rattle.lists.specs.Places.{without}
use Rattle.links.specs.PlaceIn.{place_in}
use Rattle.lists.proofs.Weights.{eqb_cases, ltb_cases, weigh_push, weigh-set, occ-without, without_none}
use Rattle.lists.proofs.Places.{place_found, occ_found, occ_nowhere}
use Rattle.links.specs.declared.Ends.{Ends}
use Rattle.links.specs.declared.Part.{Part}
use Rattle.links.specs.declared.Part.TheVariants.{Unused, Top, Bottom}
use Rattle.model.specs.Order.{Rule, Order, fresh, entered, exchanged, depth_of, slot_of}
use Rattle.model.proofs.Uses.{sound_fresh, sound_entered, sound_exchanged, once_bottom, only_bottom, slot_in}
use Rattle.order.specs.declared.parts.TwoParts.{TwoParts}
use Rattle.order.specs.Views.{Views, LinkedAs}
use Rattle.order.specs.Stands.{part_of, AllUnused, SaysBottom, Arranged, Stands}

-- A part by how often the page stands in the top and in the bottom.
abbrev pub part_by : ℕ → ℕ → Part
part_by a b = cond (ltb 0 a) Top (cond (ltb 0 b) Bottom Unused)

by_top : (a b : ℕ) → 0 < a → Top ≡ part_by a b
by_top a b h = rw (lt-ltb 0 a h)

by_bottom : (a b : ℕ) → a ≡ 0 → 0 < b → Bottom ≡ part_by a b
by_bottom a b z h = rw (le-ltb 0 a (omega arith), lt-ltb 0 b h)

pub same_part : (a a' b b' : ℕ) → a ≡ a' → b ≡ b' → part_by a b ≡ part_by a' b'
same_part a a' b b' e f = ap (λ x. part_by x b) e ∙ ap (λ y. part_by a' y) f

pub none_part : (a b : ℕ) → a ≡ 0 → b ≡ 0 → Unused ≡ part_by a b
none_part a b y z = rw (le-ltb 0 a (omega arith), le-ltb 0 b (omega arith))

-- What a part tells of where the page stands.
pub told_top : (a b : ℕ) → part_by a b ≡ Top → 0 < a
told_top a b e = elim (ltb_cases 0 a) [
  | inl y ↦ y.0
  | inr n ↦ elim (ltb_cases 0 b) [
    | inl y ↦ let z : ◌≡◌ {A = ℕ} 0 1 = cc (rw (n.1, y.1) at e) in absurd (omega arith)
    | inr m ↦ let z : ◌≡◌ {A = ℕ} 0 1 = cc (rw (n.1, m.1) at e) in absurd (omega arith)
  ]
]

pub told_bottom : (a b : ℕ) → part_by a b ≡ Bottom → (a ≡ 0) × (0 < b)
told_bottom a b e = elim (ltb_cases 0 a) [
  | inl y ↦ let z : ◌≡◌ {A = ℕ} 0 1 = cc (rw y.1 at e) in absurd (omega arith)
  | inr n ↦ elim (ltb_cases 0 b) [
    | inl y ↦ (omega (arith, n.0), y.0)
    | inr m ↦ let z : ◌≡◌ {A = ℕ} 0 1 = cc (rw (n.1, m.1) at e) in absurd (omega arith)
  ]
]

pub told_unused : (a b : ℕ) → part_by a b ≡ Unused → (a ≡ 0) × (b ≡ 0)
told_unused a b e = elim (ltb_cases 0 a) [
  | inl y ↦ let z : ◌≡◌ {A = ℕ} 0 1 = cc (rw y.1 at e) in absurd (omega arith)
  | inr n ↦ elim (ltb_cases 0 b) [
    | inl y ↦ let z : ◌≡◌ {A = ℕ} 0 1 = cc (rw (n.1, y.1) at e) in absurd (omega arith)
    | inr m ↦ (omega (arith, n.0), omega (arith, m.0))
  ]
]

module _ {X : Type 0} (c c' : TwoParts X) (v v' : Views) (o : Order) (p : ℕ) (s : Arranged c v o) (sized : length v.parts ≡ v.size) (low : p < v.size) (out-of-top : occ p o.top ≡ 0)
    (long : v'.size ≡ v.size) (slots_is : c'.slots ≡ c.slots) where
  entered_parts : v'.parts ≡ set v.parts p Top → (q : ℕ) → q < v'.size → get_or v'.parts q Unused ≡ part_of (entered p o) q
  entered_parts e q h = rw e (elim (eqb_cases q p) [
    | inl y ↦ rw y.0 (get_or-set_same v.parts p Top Unused (omega (arith, sized)) ∙ by_top (occ p (o.top ++ p ∷ [])) (occ p o.bottom) (omega (arith, weigh_push (λ x. one (eqb x p)) o.top p, eq_one p)))
    | inr n ↦ get_or-set_other v.parts p q Top Unused n.0 ∙ (s.parts_are q (omega (arith, long)) ∙ same_part (occ q o.top) (occ q (o.top ++ p ∷ [])) (occ q o.bottom) (occ q o.bottom) (omega (arith, weigh_push (λ x. one (eqb x q)) o.top p, ne_one q n.0)) refl)
  ]) where
    eq_one : (x : ℕ) → one (eqb x x) ≡ 1
    eq_one x = rw (eq-eqb x x refl)

    ne_one : (x : ℕ) → x ≢ p → one (eqb p x) ≡ 0
    ne_one x ne = rw (ne_eqb p x (λ z. ne (sym z)))

  pub arranged_entered : length c.top.items < c.slots → v'.nexts ≡ v.nexts → v'.prevs ≡ v.prevs → v'.parts ≡ set v.parts p Top →
      c'.top.items ≡ c.top.items ++ p ∷ [] → c'.bottom ≡ c.bottom → Arranged c' v' (entered p o)
  arranged_entered room ns ps pa to bo = record {
    sound = rw (long, slots_is) (sound_entered v.size c.slots p o s.sound low (omega arith) (rw s.top_is at room));
    top_is = to ∙ ap (λ xs. xs ++ p ∷ []) s.top_is;
    bottom_is = rw (ns, ps, long, bo) s.bottom_is;
    parts_are = entered_parts pa;
  }

  module _ (r : Rule) (slot out : ℕ) (slot_is : slot ≡ r.slot o.told c.slots) (inside : slot < c.slots) (full : c.slots ≤ length c.top.items) (out-is : out ≡ get_or c.top.items slot 0) where
    all_filled : c.slots ≤ length o.top
    all_filled = rw s.top_is at full

    slot_low : slot < length o.top
    slot_low = omega (arith, all_filled)

    out_here : out ≡ get_or o.top slot 0
    out_here = out-is ∙ ap (λ xs. get_or xs slot 0) s.top_is

    pub out_top : 0 < occ out o.top
    out_top = rw out_here (slot_in o.top slot slot_low)

    pub out_low : out < v.size
    out_low = elim (cases_lt out v.size) [ inl y ↦ y | inr n ↦ absurd (omega (arith, out_top, rw (le-ltb out v.size n) at (s.sound.once out))) ]

    pub out_gone : occ out o.bottom ≡ 0
    out_gone = only_bottom s.sound out out_top

    pub out_without : occ out (without p o.bottom) ≡ 0
    out_without = elim (eqb_cases p out) [
      | inl e ↦ absurd (omega (arith, out_top, out-of-top, ap (λ x. occ x o.top) e.0))
      | inr n ↦ occ-without out p o.bottom (once_bottom s.sound p) ∙ rw n.1 out_gone
    ]

    exchanged_parts : v'.parts ≡ set (set v.parts out Bottom) p Top → (q : ℕ) → q < v'.size → get_or v'.parts q Unused ≡ part_of (exchanged r c.slots p o) q
    exchanged_parts e q h = rw (e, ← slot_is, ← out_here) (elim (eqb_cases q p) [
      | inl y ↦ ap (λ i. get_or (set (set v.parts out Bottom) p Top) i Unused) y.0 ∙ (get_or-set_same (set v.parts out Bottom) p Top Unused (simp length-set (omega (arith, sized))) ∙ by_top (occ q (set o.top slot p)) (one (eqb out q) + occ q (without p o.bottom)) (rw y.0 (in_new (eq-eqb p p refl))))
      | inr n ↦ get_or-set_other (set v.parts out Bottom) p q Top Unused n.0 ∙ elim (eqb_cases q out) [
        | inl y ↦ ap (λ i. get_or (set v.parts out Bottom) i Unused) y.0 ∙ (get_or-set_same v.parts out Bottom Unused (omega (arith, sized, out_low)) ∙ by_bottom (occ q (set o.top slot p)) (one (eqb out q) + occ q (without p o.bottom)) (left_top y.0 n.0) (now_first y.0))
        | inr m ↦ get_or-set_other v.parts out q Bottom Unused m.0 ∙ (s.parts_are q (omega (arith, long)) ∙ same_part (occ q o.top) (occ q (set o.top slot p)) (occ q o.bottom) (one (eqb out q) + occ q (without p o.bottom)) (kept_top n.0 m.0) (kept_bottom n.0 m.0))
      ]
    ]) where
      moved : (x : ℕ) → occ x (set o.top slot p) + one (eqb out x) ≡ occ x o.top + one (eqb p x)
      moved x = rw out_here (weigh-set (λ y. one (eqb y x)) o.top slot p slot_low)

      in_new : eqb p p ≡ true → 0 < occ p (set o.top slot p)
      in_new e = elim (eqb_cases out p) [
        | inl y ↦ absurd (omega (arith, out_top, out-of-top, ap (λ x. occ x o.top) y.0))
        | inr n ↦ omega (arith, rw (e, n.1) at (moved p))
      ]

      top_once : (x : ℕ) → occ x o.top ≤ 1
      top_once x = elim (ltb_cases x v.size) [
        | inl y ↦ omega (arith, rw y.1 at (s.sound.once x))
        | inr n ↦ omega (arith, rw n.1 at (s.sound.once x))
      ]

      now_first : q ≡ out → 0 < one (eqb out q) + occ q (without p o.bottom)
      now_first e = rw (eq-eqb out q (sym e)) (omega arith)

      left_top : q ≡ out → q ≢ p → occ q (set o.top slot p) ≡ 0
      left_top e ne = omega (arith, rw (eq-eqb out q (sym e), ne_eqb p q (λ z. ne (sym z))) at (moved q), top_once q)

      kept_top : q ≢ p → q ≢ out → occ q o.top ≡ occ q (set o.top slot p)
      kept_top np no' = omega (arith, rw (ne_eqb out q (λ z. no' (sym z)), ne_eqb p q (λ z. np (sym z))) at (moved q))

      kept_bottom : q ≢ p → q ≢ out → occ q o.bottom ≡ one (eqb out q) + occ q (without p o.bottom)
      kept_bottom np no' = rw (ne_eqb out q (λ z. no' (sym z))) (omega (arith, rw (ne_eqb p q (λ z. np (sym z))) at (occ-without q p o.bottom (once_bottom s.sound p))))

    pub arranged_exchanged : LinkedAs v' c'.bottom (out ∷ without p o.bottom) → v'.parts ≡ set (set v.parts out Bottom) p Top →
        c'.top.items ≡ set c.top.items slot p → Arranged c' v' (exchanged r c.slots p o)
    arranged_exchanged ho pa to = record {
      sound = rw (long, slots_is) (sound_exchanged v.size c.slots p o s.sound low r (rw (← slot_is) inside) (omega arith) all_filled);
      top_is = rw (← slot_is) (to ∙ ap (λ xs. set xs slot p) s.top_is);
      bottom_is = rw (← slot_is, ← out_here) ho;
      parts_are = exchanged_parts pa;
    }

-- What the record of a page tells of its depth.
module _ {X : Type 0} (c : TwoParts X) (v : Views) (o : Order) (p : ℕ) (s : Arranged c v o) (low : p < v.size) where
  part_here : (found : Part) → found ≡ get_or v.parts p Unused → part_by (occ p o.top) (occ p o.bottom) ≡ found
  part_here found e = sym (s.parts_are p low) ∙ sym e

  pub depth_unused : (found : Part) → found ≡ get_or v.parts p Unused → found ≡ Unused → None ≡ depth_of p o
  depth_unused found h e = let z = told_unused (occ p o.top) (occ p o.bottom) (part_here found h ∙ e) in
      rw (le-ltb 0 (occ p o.top) (omega (arith, z.0)), le-ltb 0 (occ p o.bottom) (omega (arith, z.1)))

  pub in_top : (found : Part) → found ≡ get_or v.parts p Unused → found ≡ Top → has p o.top ≡ true
  in_top found h e = lt-ltb 0 (occ p o.top) (told_top (occ p o.top) (occ p o.bottom) (part_here found h ∙ e))

  pub depth_top : (found : Part) → found ≡ get_or v.parts p Unused → found ≡ Top → Some 0 ≡ depth_of p o
  depth_top found h e = rw (in_top found h e)

  pub depth_bottom : (found : Part) (d : Option ℕ) → found ≡ get_or v.parts p Unused → found ≡ Bottom → d ≡ place_in p o.bottom → d ≡ depth_of p o
  depth_bottom found d h e f = let z = told_bottom (occ p o.top) (occ p o.bottom) (part_here found h ∙ e) in
      rw (le-ltb 0 (occ p o.top) (omega (arith, z.0))) f

  pub not_in_top : (found : Part) → found ≡ get_or v.parts p Unused → (found ≡ Top → ⊥) → has p o.top ≡ false
  not_in_top found h ne = elim (ltb_cases 0 (occ p o.top)) [
    | inl y ↦ absurd (ne (sym (part_here found h) ∙ sym (by_top (occ p o.top) (occ p o.bottom) y.0)))
    | inr n ↦ n.1
  ]

  pub says_bottom : occ p o.top ≡ 0 → SaysBottom v.parts p o.bottom
  says_bottom z = record {
    there = λ e. (told_bottom (occ p o.top) (occ p o.bottom) (sym (s.parts_are p low) ∙ e)).1;
    away = λ ne. elim (cases_lt 0 (occ p o.bottom)) [
      | inl y ↦ absurd (ne (s.parts_are p low ∙ sym (by_bottom (occ p o.top) (occ p o.bottom) z y)))
      | inr n ↦ omega arith
    ];
  }

-- A list that is linked so in one table is linked so in each with the same links.
pub relinked : (v u : Views) (e : Ends) (bs : List ℕ) → u.nexts ≡ v.nexts → u.prevs ≡ v.prevs → u.size ≡ v.size → LinkedAs v e bs → LinkedAs u e bs
relinked v u e bs ns ps long h = rw (ns, ps, long) h

-- A page that is not in the list needs not be taken out.
pub nothing_out : (v : Views) (e : Ends) (p : ℕ) (bs : List ℕ) → occ p bs ≡ 0 → LinkedAs v e bs → LinkedAs v e (without p bs)
nothing_out v e p bs z h = rw (without_none p bs z) h

-- What a read of a page's part tells of where the page is: in the bottom exactly if it answers so.
abbrev pub PartRead : List Part → ℕ → Option Part → Type 0
PartRead parts p r = MatchOption r (length parts ≤ p) (λ part. (p < length parts) × (part ≡ get_or parts p Unused))

pub read_bottom : (parts : List Part) (p : ℕ) (bs : List ℕ) (r : Option Part) → PartRead parts p r → SaysBottom parts p bs → option_eq (sameb the_type) r (Some Bottom) ≡ true → 0 < occ p bs
read_bottom parts p bs None m says e = absurd (true≢false (sym e))
read_bottom parts p bs (Some part) m says e = says.there (sym m.1 ∙ same_true the_type tt part Bottom e)

pub read_other : (parts : List Part) (p : ℕ) (bs : List ℕ) (r : Option Part) → PartRead parts p r → SaysBottom parts p bs → option_eq (sameb the_type) r (Some Bottom) ≡ false → occ p bs ≡ 0
read_other parts p bs None m says e = says.away (λ b. let w = get_or_past parts p Unused m in let z : ◌≡◌ {A = ℕ} 0 1 = cc (w, b) in omega arith)
read_other parts p bs (Some part) m says e = says.away (λ b. same_false the_type part Bottom e (m.1 ∙ b))

-- Nothing is linked and no slot is filled at first.
pub stands_fresh : {X : Type 0} (told : X → ℕ) (c : TwoParts X) (v : Views) → c.top.items ≡ [] → LinkedAs v c.bottom [] → AllUnused v → Stands told c v (fresh (told c.rule))
stands_fresh told c v f h u = record {
  arranged = record {
    sound = sound_fresh v.size c.slots (told c.rule);
    top_is = f;
    bottom_is = h;
    parts_are = u;
  };
  told_is = refl;
}

-- What is arranged as an order stands for it in the state that the rule tells.
pub arranged_stands : {X : Type 0} (told : X → ℕ) (c : TwoParts X) (v : Views) (o : Order) → Arranged c v o → Stands told c v (record { top = o.top; bottom = o.bottom; told = told c.rule })
arranged_stands told c v o s = record {
  arranged = record {
    sound = record { once = s.sound.once; fits = s.sound.fits; full = s.sound.full };
    top_is = s.top_is;
    bottom_is = s.bottom_is;
    parts_are = s.parts_are;
  };
  told_is = refl;
}

-- The steps of an exchange, one after the other: p is taken out of the bottom, the slot's page is put in front of it, and both are noted.
pub exchange_stands : {X : Type 0} (told : X → ℕ) (c c' : TwoParts X) (v v₁ v₂ v₃ v' : Views) (b₁ : Ends) (o : Order) (p slot out : ℕ) (r : Rule) →
    (s : Stands told c v o) → length v.parts ≡ v.size → (low : p < v.size) → has p o.top ≡ false → slot ≡ r.slot (told c.rule) c.slots → slot < c.slots → c.slots ≤ length c.top.items → out ≡ get_or c.top.items slot 0 →
    v₁.size ≡ v.size → v₂.size ≡ v₁.size → v₃.size ≡ v₂.size → v'.size ≡ v₃.size →
    ((bs : List ℕ) → LinkedAs v c.bottom bs → SaysBottom v.parts p bs → LinkedAs v₁ b₁ (without p bs)) →
    ((bs : List ℕ) → LinkedAs v₁ b₁ bs → out < v₁.size → occ out bs ≡ 0 → LinkedAs v₂ c'.bottom (out ∷ bs)) →
    v₃.nexts ≡ v₂.nexts → v'.nexts ≡ v₃.nexts → v₃.prevs ≡ v₂.prevs → v'.prevs ≡ v₃.prevs →
    v₁.parts ≡ v.parts → v₂.parts ≡ v₁.parts → v₃.parts ≡ set v₂.parts out Bottom → v'.parts ≡ set v₃.parts p Top →
    c'.slots ≡ c.slots → c'.top.items ≡ set c.top.items slot p → told c'.rule ≡ r.next (told c.rule) c.slots → Stands told c' v' (exchanged r c.slots p o)
exchange_stands told c c' v v₁ v₂ v₃ v' b₁ o p slot out r st sized low away slot-told inside full out-is l₁ l₂ l₃ l₄ cuts pushes n₃ n₄ p₃ p₄ a₁ a₂ a₃ a₄ sl to ru =
    let s = st.arranged in
    let slot_is = slot-told ∙ ap (λ x. r.slot x c.slots) st.told_is in
    let z : occ p o.top ≡ 0 = omega (arith, ltb-false 0 (occ p o.top) away) in
    let long : v'.size ≡ v.size = omega (arith, l₁, l₂, l₃, l₄) in
    let low-out = out_low c c' v v' o p s sized low z long sl r slot out slot_is inside full out-is in
    let off = out_without c c' v v' o p s sized low z long sl r slot out slot_is inside full out-is in
    let h₁ = cuts o.bottom s.bottom_is (says_bottom c v o p s low z) in
    let h₂ = pushes (without p o.bottom) h₁ (omega (arith, low-out, l₁)) off in
    let h₄ = relinked v₂ v' c'.bottom (out ∷ without p o.bottom) (n₄ ∙ n₃) (p₄ ∙ p₃) (omega (arith, l₃, l₄)) h₂ in
    let pa : v'.parts ≡ set (set v.parts out Bottom) p Top = a₄ ∙ ap (λ xs. set xs p Top) (a₃ ∙ ap (λ xs. set xs out Bottom) (a₂ ∙ a₁)) in
    record {
      arranged = arranged_exchanged c c' v v' o p s sized low z long sl r slot out slot_is inside full out-is h₄ pa to;
      told_is = ru ∙ ap (λ x. r.next x c.slots) st.told_is;
    }

-- The slot of a page in the top is the first that holds it.
pub first_slot : (p : ℕ) (o : Order) → position (λ x. eqb x p) o.top ≡ slot_of p o
first_slot p o = elim (cases_lt i (length o.top)) [
  | inl y ↦ rw (lt-ltb i (length o.top) y, lt-ltb 0 (occ p o.top) (occ_found p o.top i y (here y))) (ap Some (omega (arith, place_found p 0 o.top i y (here y) none)))
  | inr n ↦ rw (le-ltb i (length o.top) n, le-ltb 0 (occ p o.top) (omega (arith, occ_nowhere p o.top (λ k low. none k (omega arith))))) refl
] where
  i : ℕ
  i = position_or_len (λ x. eqb x p) o.top

  here : i < length o.top → get_or o.top i 0 ≡ p
  here y = eqb-true (get_or o.top i 0) p (passes_at_first (λ x. eqb x p) o.top 0 y)

  none : (k : ℕ) → k < i → get_or o.top k 0 ≡ p → ⊥
  none k low e = true≢false (sym (eq-eqb (get_or o.top k 0) p e) ∙ fails_before_first (λ x. eqb x p) o.top k 0 low)
