-- Lines put at the front of some bytes, part by part.
use Rattle.std.proofs.Common.{◌≡◌, ℕ, ◌+◌, ◌<◌, ◌≤◌, List, [], ◌∷◌, ◌++◌, length, get_or, drop, set, sym, refl, ap, ◌∙◌, append_assoc, arith}
use borrow.Rule.Slice.PartMut.{put_mid}
use Rattle.std.proofs.lemmas.List.{length-append, take_at, drop_at, drop-drop, drop_more, set_at}
use Rattle.fields.specs.Justified.{justified}
use Rattle.lines.specs.declared.Header.{Header}
use Rattle.lines.specs.declared.CallRecord.{CallRecord}
use Rattle.writing.specs.Text.{header_text, call_text, text_first, Narrow}
use Rattle.writing.proofs.Widths.{justified_length, Narrows, line_of, header_length, use_text}

-- One byte more, after those that are put.
put_byte : (done xs : List ℕ) (a b y : ℕ) → length done ≡ a → a < length xs → a + 1 ≡ b → set (done ++ drop a xs) a y ≡ (done ++ y ∷ []) ++ drop b xs
put_byte done xs a b y l h e =
    ap (λ t. set (done ++ t) a y) (drop_more xs a 0 h) ∙ set_at done (get_or xs a 0) (drop (a + 1) xs) y a l
    ∙ ap (λ k. done ++ y ∷ drop k xs) e ∙ sym (append_assoc done (y ∷ []) (drop b xs))

-- Several bytes more.
put_part : (done xs ys : List ℕ) (a k b : ℕ) → length done ≡ a → a + k ≡ b → put_mid a k (done ++ drop a xs) ys ≡ (done ++ ys) ++ drop b xs
put_part done xs ys a k b l e =
    ap (λ t. t ++ (ys ++ drop k (drop a (done ++ drop a xs)))) (take_at done (drop a xs) a l)
    ∙ ap (λ t. done ++ (ys ++ drop k t)) (drop_at done (drop a xs) a l)
    ∙ ap (λ t. done ++ (ys ++ t)) (drop-drop k a xs ∙ ap (λ n. drop n xs) e)
    ∙ sym (append_assoc done ys (drop b xs))

-- The first byte.
put_first_byte : (xs : List ℕ) (y : ℕ) → 0 < length xs → set xs 0 y ≡ (y ∷ []) ++ drop 1 xs
put_first_byte xs y h = put_byte [] xs 0 1 y refl h refl

-- The parts of line 1 in a row.
in_a_row : (p t s : List ℕ) (r : ℕ) → ((((72 ∷ p) ++ t) ++ r ∷ []) ++ s) ++ 10 ∷ [] ≡ line_of p t r s
in_a_row p t s r = simp append_assoc

-- Line 1.
pub header_put : (h : Header) (xs p t s : List ℕ) → Narrows h → 21 ≤ length xs → p ≡ justified 5 h.pages → t ≡ justified 3 h.top → s ≡ justified 10 h.seed → set (put_mid 10 10 (set (put_mid 6 3 (put_mid 1 5 (set xs 0 72) p) t) 9 h.rule) s) 20 10 ≡ text_first (header_text h) xs
header_put h xs p t s n room a b c =
    let lp = ap length a ∙ justified_length 5 h.pages n.pages in
    let lt = ap length b ∙ justified_length 3 h.top n.top in
    let ls = ap length c ∙ justified_length 10 h.seed n.seed in
    let d₁ : List ℕ = 72 ∷ [] in
    let d₂ : List ℕ = d₁ ++ p in
    let d₃ : List ℕ = d₂ ++ t in
    let d₄ : List ℕ = d₃ ++ h.rule ∷ [] in
    let d₅ : List ℕ = d₄ ++ s in
    let l₂ : length d₂ ≡ 6 = omega arith in
    let l₃ : length d₃ ≡ 9 = omega (arith, length-append d₂ t) in
    let l₄ : length d₄ ≡ 10 = omega (arith, length-append d₃ (h.rule ∷ [])) in
    let l₅ : length d₅ ≡ 20 = omega (arith, length-append d₄ s) in
    let e₁ = put_first_byte xs 72 (omega arith) in
    let e₂ = ap (λ z. put_mid 1 5 z p) e₁ ∙ put_part d₁ xs p 1 5 6 refl refl in
    let e₃ = ap (λ z. put_mid 6 3 z t) e₂ ∙ put_part d₂ xs t 6 3 9 l₂ refl in
    let e₄ = ap (λ z. set z 9 h.rule) e₃ ∙ put_byte d₃ xs 9 10 h.rule l₃ (omega arith) refl in
    let e₅ = ap (λ z. put_mid 10 10 z s) e₄ ∙ put_part d₄ xs s 10 10 20 l₄ refl in
    let e₆ = ap (λ z. set z 20 10) e₅ ∙ put_byte d₅ xs 20 21 10 l₅ (omega arith) refl in
    let same : d₅ ++ 10 ∷ [] ≡ header_text h = in_a_row p t s h.rule ∙ ap (λ z. line_of z t h.rule s) a ∙ ap (λ z. line_of (justified 5 h.pages) z h.rule s) b ∙ ap (λ z. line_of (justified 5 h.pages) (justified 3 h.top) h.rule z) c in
    e₆ ∙ ap (λ z. z ++ drop 21 xs) same ∙ ap (λ k. header_text h ++ drop k xs) (sym (header_length h n))

-- The line of a use.
pub use_put : (c : CallRecord) (xs p : List ℕ) → Narrow c → (c.letter ≡ 83 → ⊥) → 7 ≤ length xs → p ≡ justified 5 c.page → set (put_mid 1 5 (set xs 0 c.letter) p) 6 10 ≡ text_first (call_text c) xs
use_put c xs p n other room a =
    let lp = ap length a ∙ justified_length 5 c.page n in
    let e₁ = put_first_byte xs c.letter (omega arith) in
    let e₂ = ap (λ z. put_mid 1 5 z p) e₁ ∙ put_part (c.letter ∷ []) xs p 1 5 6 refl refl in
    let e₃ = ap (λ z. set z 6 10) e₂ ∙ put_byte (c.letter ∷ p) xs 6 7 10 (omega arith) (omega arith) refl in
    let same : c.letter ∷ (p ++ 10 ∷ []) ≡ call_text c = ap (λ z. c.letter ∷ (z ++ 10 ∷ [])) a ∙ sym (use_text c other) in
    let seven : length (c.letter ∷ (p ++ 10 ∷ [])) ≡ 7 = omega (arith, length-append p (10 ∷ [])) in
    e₃ ∙ ap (λ k. (c.letter ∷ (p ++ 10 ∷ [])) ++ drop k xs) (sym seven) ∙ ap (λ z. text_first z xs) same
