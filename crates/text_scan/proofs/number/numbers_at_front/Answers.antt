-- One more number, and the blank behind it.
use Rattle.std.proofs.Common.{◌≡◌, ◌+◌, ◌-◌, ◌<◌, ◌≤◌, ◌++◌, [], ◌∷◌, Bool, true, false, ℕ, List, length, take, drop, set, get_or}
use Rattle.std.proofs.Common.{ℤ, w64, to_z, of_z, sym, ◌∙◌, ap, subst, arith}
use Rattle.std.proofs.Common.{add-one, length-drop, length-set, take-suc-set, take_all}
use Rattle.std.proofs.lemmas.Bool.Decides.{nat_tests}
use Rattle.std.proofs.lemmas.Int.{to_z-of_z}
use Rattle.cnf_base.specs.Text.{is_line_end}
use Rattle.text_scan.specs.Block.{AreNumbersAtFront, IsNumberAtFront}
use Rattle.text_scan.proofs.NumberAhead.{small_fits}
use Rattle.text_scan.proofs.NumbersAhead.{one_more_at_front}
use Rattle.text_scan.proofs.number.numbers_at_front.Goals as goal

-- one more at the front of what is left
module _ (bytes : List ℕ) (at count len blank : ℕ) (places : List ℤ) (number : ℤ) (within : at ≤ length bytes)
    (below : count < length places) (before : AreNumbersAtFront false (take count places) bytes at false)
    (found : IsNumberAtFront (take (length bytes - at) (drop at bytes)) number len)
    (blank_is : blank ≡ get_or (take (length bytes - at) (drop at bytes)) len 0) where
  rest : take (length bytes - at) (drop at bytes) ≡ drop at bytes
  rest = take_all (length bytes - at) (drop at bytes) (omega (arith, length-drop at bytes))

  is : IsNumberAtFront (drop at bytes) number len
  is = subst (λ (l : List ℕ). IsNumberAtFront l number len) rest found

  inside : at + (len + 1) ≤ length bytes
  inside = omega (arith, is.within, length-drop at bytes, within)

  front : (ended : Bool) → is_line_end blank ≡ ended
      → AreNumbersAtFront false (take (count + 1) (set places count (to_z w64 (of_z w64 number)))) bytes (at + (len + 1)) ended
  front ended ends =
      let read : to_z w64 (of_z w64 number) ≡ number = to_z-of_z w64 number (small_fits number is.small) in
      let taken : take count places ++ number ∷ [] ≡ take (count + 1) (set places count number) =
      sym (ap (λ n. take n (set places count number)) (add-one count) ∙ take-suc-set places count number below) in
      let size : at + len + 1 ≡ at + (len + 1) = omega arith in
      let same : blank ≡ get_or (drop at bytes) len 0 = blank_is ∙ ap (λ (l : List ℕ). get_or l len 0) rest in
      rw (read, ← ends, same, ← size, ← taken) (one_more_at_front false (take count places) number bytes at len before is)

pub returns-then-blank-eq10-clause-front : goal.returns-then-blank-eq10-clause-front
returns-then-blank-eq10-clause-front c =
    front c.args.bytes.now c.numbers.at c.numbers.count c.in-Some.len c.in-Some.blank c.numbers.places c.in-Some.number
    c.numbers.invariant.within c.numbers-test.true c.numbers.invariant.front c.in-Some.ensures.front c.in-Some.ensures.blank true
    (ap is_line_end c.if-blank-eq10.true)

pub numbers-preserved : goal.numbers-preserved
numbers-preserved c =
    let other : is_line_end c.in-Some.blank ≡ false = grind (arith, nat_tests, c.if-blank-eq10.false) in
    record {
      range = omega (arith, c.numbers-test.true, length-set c.numbers.places c.numbers.count (to_z w64 (of_z w64 c.in-Some.number)));
      within = inside c.args.bytes.now c.numbers.at c.numbers.count c.in-Some.len c.in-Some.blank c.numbers.places c.in-Some.number
          c.numbers.invariant.within c.numbers-test.true c.numbers.invariant.front c.in-Some.ensures.front c.in-Some.ensures.blank;
      front = front c.args.bytes.now c.numbers.at c.numbers.count c.in-Some.len c.in-Some.blank c.numbers.places c.in-Some.number
          c.numbers.invariant.within c.numbers-test.true c.numbers.invariant.front c.in-Some.ensures.front c.in-Some.ensures.blank false
          other;
    }
