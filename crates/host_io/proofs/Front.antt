-- Reading from the front of what is left.
use Rattle.std.proofs.Common.{◌≡◌, ℕ, ◌+◌, ◌<◌, ◌≤◌, List, [], ◌∷◌, ◌++◌, length, take, drop, Ok, true, arith, refl, sym, ◌∙◌, ap}
use Rattle.std.proofs.Math.Seq.{take-add}
use Rattle.std.proofs.lemmas.List.{take_at, length-take, take-append-drop, drop-drop}
use Rattle.host_io.specs.Channel.{Channel, Held, Reads}

-- a channel that has read this far in the bytes that were there to be read
abbrev pub at_position : Channel → List ℕ → ℕ → Channel
at_position channel input position = record channel { taken = take position input; left = Held (drop position input) }

empty : (xs : List ℕ) → length xs ≡ 0 → xs ≡ []
empty [] h = refl
empty (x ∷ xs) h = cc

-- A read of some bytes that are left and fit, none only where none are left, whose front is that of what was left.
pub reads_front : (channel : Channel) (input : List ℕ) (position count capacity : ℕ) (front rest : List ℕ) → count
    ≤ length (drop position input) → count ≤ capacity
    → (count ≡ 0 → 0 < capacity → length (drop position input) ≡ 0) → front ≡ take count (drop position input)
    → Reads true (at_position channel input position) (at_position channel input (position + count)) capacity (front ++ rest) (Ok count)
reads_front channel input position count capacity front rest left fits ends front_is =
    let long : length front ≡ count = ap length front_is ∙ length-take count (drop position input) ∙ omega arith in
    let part : take count (front ++ rest) ≡ front = take_at front rest count long in
    let whole : take count (drop position input) ++ drop count (drop position input)
    ≡ drop position input = take-append-drop count (drop position input) in
    record {
      count = fits;
      taken = λ _. rw (part, front_is) (take-add position count input);
      left = λ _. rw (part, front_is, ← drop-drop count position input) (sym whole);
      ended = λ _ e some.
          let none : count ≡ 0 = cc in
          rw (← drop-drop count position input, none) (empty (drop position input) (ends none some));
      written = refl;
      flushed = refl;
      name = refl;
      faults = record { no_less = omega arith; cause = λ e. cc; unfailed = λ _. refl };
    }
