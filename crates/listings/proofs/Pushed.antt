-- Lines that are added one after the other.
use Rattle.std.proofs.Common.{◌≡◌, ℕ, zero, suc, ◌+◌, List, [], ◌∷◌, ◌++◌, sym, ap, ◌∙◌, add-one, arith}
use Rattle.std.specs.List.{range_with_len, flat_map}
use Rattle.std.proofs.lemmas.List.{flat_map_more}

counting_push : (a n : ℕ) → range_with_len a (suc n) ≡ range_with_len a n ++ (a + n) ∷ []
counting_push a zero = let z : a ≡ a + 0 = omega arith in ap (λ x. x ∷ []) z
counting_push a (suc n) = let z : a + 1 + n ≡ a + suc n = omega arith in ap (λ xs. a ∷ xs) (counting_push (a + 1) n ∙ ap (λ x. range_with_len (a + 1) n ++ x ∷ []) z)

-- One line more.
pub line_more : (f : ℕ → List ℕ) (a b c : List ℕ) (i : ℕ) → b ≡ a ++ flat_map f (range_with_len 0 i) → c ≡ b ++ f i → c ≡ a ++ flat_map f (range_with_len 0 (i + 1))
line_more f a b c i e g =
    let z : 0 + i ≡ i = omega arith in
    g ∙ (ap (λ x. x ++ f i) e ∙ (flat_map_more f a (range_with_len 0 i) i ∙ ap (λ xs. a ++ flat_map f xs) (ap (λ j. range_with_len 0 i ++ j ∷ []) (sym z) ∙ (sym (counting_push 0 i) ∙ ap (range_with_len 0) (sym (add-one i))))))
