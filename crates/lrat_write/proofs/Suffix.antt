-- A line's text from its last number back to its first.
use Rattle.std.proofs.Common.{◌≡◌, ℕ, ◌<◌, ◌≤◌, ◌^◌, List, [], ◌∷◌, ◌++◌, length, length-drop, take, drop, ◌-◌, get_or, suc, Bool, ℤ, pos}
use Rattle.std.proofs.Common.{negsuc, refl, sym, ap, ◌∙◌, append_assoc, arith}
use Rattle.std.specs.Prelude.{nat_abs, decimal}
use Rattle.std.specs.Int.{is_negative}
use Rattle.std.specs.List.{flat_map}
use Rattle.std.proofs.lemmas.Bool.{le-ltb}
use Rattle.std.proofs.lemmas.Fmt.{length-decimal-le}
use Rattle.std.proofs.lemmas.List.{take_all}
use Rattle.std.proofs.Math.Seq.{drop-cons}
use Rattle.host_io.proofs.Emitting.{from_second, from_second-4}
use Rattle.lrat_write.specs.LineText.{led_number, spaced_literal, literals_text, ids_text, line_text, deletion_text}

-- the digits of a number that fits 64 bits
pub length-decimal : (n : ℕ) → n < 2 ^ 64 → length (decimal n) ≤ 20
length-decimal n fits = length-decimal-le 20 n (omega arith) (omega arith) fits

-- one item more before those that stand
pub one_before : {X : Type 0} (f : X → List ℕ) (xs : List X) (left : ℕ) (item blank : X) (stood stands behind : List ℕ) → left < length xs
    → item ≡ get_or xs left blank → stood ≡ flat_map f (drop (suc left) xs) ++ behind → stands ≡ f item ++ stood
    → stands ≡ flat_map f (drop left xs) ++ behind
one_before f xs left item blank stood stands behind within is before now =
    now ∙ ap (λ (l : List ℕ). f item ++ l) before ∙ sym (append_assoc (f item) (flat_map f (drop (suc left) xs)) behind)
    ∙ ap (λ (x : _). (f x ++ flat_map f (drop (suc left) xs)) ++ behind) is
    ∙ ap (λ (l : List _). flat_map f l ++ behind) (sym (drop-cons xs left blank within))

pub literal_led : (z : ℤ) → led_number (is_negative z) (nat_abs z) ≡ spaced_literal z
literal_led (pos n) = ap (λ (minus : Bool). led_number minus n) (le-ltb n 0 (omega arith))
literal_led (negsuc n) = refl

-- what stands from a place on, where nothing stands behind it
pub slice_to_end : (buffer text : List ℕ) (start : ℕ) → length buffer ≡ 256 → drop start buffer ≡ text
    → take (256 - start) (drop start buffer) ≡ text
slice_to_end buffer text start long is = take_all (256 - start) (drop start buffer) (omega (arith, length-drop start buffer)) ∙ is

-- the parts of a line, the last one first
pub line_backward : (id : ℕ) (clause : List ℤ) (lead ids : List ℕ) {newline end numbers zero literals whole : List ℕ} → newline ≡ 10 ∷ []
    → end ≡ 32 ∷ 48 ∷ newline
    → numbers ≡ ids_text lead ids ++ end → zero ≡ 32 ∷ 48 ∷ numbers → literals ≡ literals_text clause ++ zero → whole ≡ decimal id
    ++ literals
    → whole ≡ line_text id clause lead ids
line_backward id clause lead ids first second third fourth fifth sixth =
    sixth ∙ ap (λ (l : List ℕ). decimal id ++ l) (fifth ∙ ap (λ (l : List ℕ). literals_text clause ++ l) (fourth
    ∙ ap (λ (l : List ℕ). 32 ∷ 48 ∷ l)
    (third ∙ ap (λ (l : List ℕ). ids_text lead ids ++ l) (second ∙ ap (λ (l : List ℕ). 32 ∷ 48 ∷ l) first))))
    ∙ sym (from_second (decimal id) (literals_text clause) (32 ∷ 48 ∷ []) (ids_text lead ids) (32 ∷ 48 ∷ 10 ∷ []))

pub deletion_backward : (id : ℕ) (ids : List ℕ) {newline end numbers word space whole : List ℕ} → newline ≡ 10 ∷ [] → end ≡ 32 ∷ 48
    ∷ newline
    → numbers ≡ ids_text (32 ∷ []) ids ++ end → word ≡ 100 ∷ numbers → space ≡ 32 ∷ word → whole ≡ decimal id ++ space
    → whole ≡ deletion_text id ids
deletion_backward id ids first second third fourth fifth sixth =
    sixth ∙ ap (λ (l : List ℕ). decimal id ++ l) (fifth ∙ ap (λ (l : List ℕ). 32 ∷ l) (fourth ∙ ap (λ (l : List ℕ). 100 ∷ l)
    (third ∙ ap (λ (l : List ℕ). ids_text (32 ∷ []) ids ++ l) (second ∙ ap (λ (l : List ℕ). 32 ∷ 48 ∷ l) first))))
    ∙ sym (from_second-4 (decimal id) (32 ∷ 100 ∷ []) (ids_text (32 ∷ []) ids) (32 ∷ 48 ∷ 10 ∷ []))
