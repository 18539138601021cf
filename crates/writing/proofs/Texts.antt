-- The lines of the calls, one call at a time.
use Rattle.std.proofs.Common.{◌≡◌, ℕ, ◌+◌, ◌-◌, ◌<◌, ◌≤◌, List, [], ◌∷◌, ◌++◌, length, get_or, take, drop, sym, refl, ap, ◌∙◌, append_assoc, arith}
use borrow.Rule.Slice.PartMut.{put_mid}
use Rattle.std.proofs.lemmas.List.{append-nil, length-append, length-drop, take_more, take_rest, take-append-drop, flat_map_more, drop_all, drop-drop, drop_at, take_at}
use Rattle.lines.specs.declared.CallRecord.{CallRecord}
use Rattle.writing.specs.Text.{call_text, calls_text, text_first}

-- The text of calls and more calls.
pub text_append : (xs ys : List CallRecord) → calls_text (xs ++ ys) ≡ calls_text xs ++ calls_text ys
text_append [] ys = refl
text_append (x ∷ xs) ys = ap (λ t. call_text x ++ t) (text_append xs ys) ∙ sym (append_assoc (call_text x) (calls_text xs) (calls_text ys))

-- One call more.
pub text_more : (cs : List CallRecord) (i : ℕ) (d : CallRecord) → i < length cs → calls_text (take (i + 1) cs) ≡ calls_text (take i cs) ++ call_text (get_or cs i d)
text_more cs i d h = ap calls_text (take_more cs i d h) ∙ sym (flat_map_more call_text [] (take i cs) (get_or cs i d))

-- The text of the first calls is no longer than that of all.
pub text_le : (cs : List CallRecord) (i : ℕ) → length (calls_text (take i cs)) ≤ length (calls_text cs)
text_le cs i =
    let a = ap (λ t. length (calls_text t)) (take-append-drop i cs) in
    let b = ap length (text_append (take i cs) (drop i cs)) ∙ length-append (calls_text (take i cs)) (calls_text (drop i cs)) in
    omega arith

pub length_more : (cs : List CallRecord) (i : ℕ) (d : CallRecord) → i < length cs → length (calls_text (take (i + 1) cs)) ≡ length (calls_text (take i cs)) + length (call_text (get_or cs i d))
length_more cs i d h = ap length (text_more cs i d h) ∙ length-append (calls_text (take i cs)) (call_text (get_or cs i d))

-- What is left of some bytes from a place on has room for n bytes where the whole has.
pub room_left : (bytes : List ℕ) (at n : ℕ) → at + n ≤ length bytes → n ≤ length (take (length bytes - at) (drop at bytes))
room_left bytes at n h = let a = ap length (take_rest bytes at) ∙ length-drop at bytes in omega arith

-- A text put after another that stands at the front.
pub put_on : (t line old bytes part : List ℕ) (at : ℕ) → at ≡ length t → bytes ≡ text_first t old → part ≡ text_first line (take (length bytes - at) (drop at bytes)) → put_mid at (length bytes - at) bytes part ≡ text_first (t ++ line) old
put_on t line old bytes part at e is put =
    let front : take at bytes ≡ t = ap (take at) is ∙ take_at t (drop (length t) old) at (sym e) in
    let rest : drop at bytes ≡ drop (length t) old = ap (drop at) is ∙ drop_at t (drop (length t) old) at (sym e) in
    let none : drop (length bytes - at) (drop at bytes) ≡ [] = drop_all (length bytes - at) (drop at bytes) (omega (arith, length-drop at bytes)) in
    let more : part ≡ line ++ drop (length line) (drop (length t) old) = put ∙ ap (text_first line) (take_rest bytes at ∙ rest) in
    ap (λ z. z ++ (part ++ drop (length bytes - at) (drop at bytes))) front ∙ ap (λ z. t ++ (part ++ z)) none ∙ ap (λ z. t ++ z) (append-nil part ∙ more)
    ∙ sym (append_assoc t line (drop (length line) (drop (length t) old)))
    ∙ ap (λ z. (t ++ line) ++ z) (drop-drop (length line) (length t) old ∙ ap (λ k. drop k old) (sym (length-append t line)))
