-- How the parts of a text add up that is collected in a small buffer, and what is written of it at its end.
use Rattle.std.proofs.Common.{◌≡◌, ℕ, ◌+◌, ◌<◌, Bool, true, false, List, [], ◌∷◌, ◌++◌, take, drop, length, get_or, Ok, Err}
use Rattle.std.proofs.Common.{refl, sym, ◌∙◌, ap, subst, append_assoc, arith}
use Rattle.std.specs.Prelude.{Result, IsOk, IsErr}
use Rattle.std.proofs.lemmas.List.{take-append-drop, append-nil, take_more}
use Rattle.std.proofs.lemmas.Grind.{flat_map-append}
use Rattle.std.specs.List.{flat_map}
use Rattle.std.proofs.Math.Seq.{take-append_seam, take-append-add}
use Rattle.host_io.specs.declared.source.Failed.{Failed}
use Rattle.host_io.specs.Channel.{Channel, Counts, WritesAll}
use Rattle.host_io.specs.Emitted.{Emits}

-- no answer is both
not_both : (r : Result (Unit {0}) Failed) → IsOk r → IsErr r → ⊥
not_both (Ok u) ok err = cc
not_both (Err e) ok err = cc

-- the counts of a call that failed are those of a caller that fails by it
still_failed : {old new : Channel} {result answer : Result (Unit {0}) Failed} → Counts old new result → IsErr result → IsErr answer
    → Counts old new answer
still_failed {answer = answer} counts err failed =
    record { no_less = counts.no_less; cause = λ _. counts.cause err; unfailed = λ ok. absurd (not_both answer ok failed) }

-- a write that failed, of a piece with more behind it
pub cut_short : {tells : Bool} {old new : Channel} {piece : List ℕ} {result answer : Result (Unit {0}) Failed}
    → WritesAll tells old new piece result → IsErr result → IsErr answer
    → (held bytes after more : List ℕ) → held ++ bytes ≡ piece ++ more → Emits tells old new held after bytes answer
cut_short {tells = true} {old} {new} {piece} {result} {answer} w err failed held bytes after more whole =
    let front = w.failed refl err in
    record {
      gained = take front.0 piece;
      rest = drop front.0 piece ++ more;
      balance = whole
          ∙ ap (λ (l : List ℕ). l ++ more) (sym (take-append-drop front.0 piece))
          ∙ append_assoc (take front.0 piece) (drop front.0 piece) more;
      done = λ ok. absurd (not_both answer ok failed);
      written = λ _. front.1;
      flushed = w.flushed;
      taken = w.taken;
      left = w.left;
      name = w.name;
      faults = still_failed w.faults err failed;
    }
cut_short {tells = false} {old} {new} {piece} {result} {answer} w err failed held bytes after more whole =
    record {
      gained = [];
      rest = piece ++ more;
      balance = whole;
      done = λ ok. absurd (not_both answer ok failed);
      written = λ no. cc;
      flushed = w.flushed;
      taken = w.taken;
      left = w.left;
      name = w.name;
      faults = still_failed w.faults err failed;
    }

-- one after the other
pub in_turn : {tells : Bool} {a b c : Channel} {held middle after first second : List ℕ} {result answer : Result (Unit {0}) Failed}
    → Emits tells a b held middle first result → IsOk result
    → Emits tells b c middle after second answer → Emits tells a c held after (first ++ second) answer
in_turn {tells} {a} {b} {c} {held} {middle} {after} {first} {second} x ok y = record {
  gained = x.gained ++ y.gained;
  rest = y.rest;
  balance = sym (append_assoc held first second)
      ∙ ap (λ (l : List ℕ). l ++ second) (x.balance ∙ ap (λ (l : List ℕ). x.gained ++ l) (sym (x.done ok)))
      ∙ append_assoc x.gained middle second ∙ ap (λ (l : List ℕ). x.gained ++ l) y.balance ∙ sym (append_assoc x.gained y.gained y.rest);
  done = y.done;
  written = λ t. y.written t ∙ ap (λ (l : List ℕ). l ++ y.gained) (x.written t) ∙ append_assoc a.written x.gained y.gained;
  flushed = y.flushed ∙ x.flushed;
  taken = y.taken ∙ x.taken;
  left = y.left ∙ x.left;
  name = y.name ∙ x.name;
  faults = record {
    no_less = omega (arith, x.faults.no_less, y.faults.no_less);
    cause = λ err. omega (arith, x.faults.no_less, y.faults.cause err);
    unfailed = λ good. y.faults.unfailed good ∙ x.faults.unfailed ok;
  };
}

-- a piece that was written at once
pub all_at_once : {tells : Bool} {old new : Channel} {piece : List ℕ} {result : Result (Unit {0}) Failed}
    → WritesAll tells old new piece result → IsOk result
    → (held bytes after : List ℕ) → held ++ bytes ≡ piece ++ after → Emits tells old new held after bytes result
all_at_once {piece = piece} w ok held bytes after whole = record {
  gained = piece;
  rest = after;
  balance = whole;
  done = λ _. refl;
  written = λ t. w.done t ok;
  flushed = w.flushed;
  taken = w.taken;
  left = w.left;
  name = w.name;
  faults = w.faults;
}

-- a piece on its own, with nothing held back before and after
pub alone : {tells : Bool} {old new : Channel} {piece : List ℕ} {result : Result (Unit {0}) Failed}
    → WritesAll tells old new piece result → Emits tells old new [] [] piece result
alone {piece = piece} {result = Ok u} w = all_at_once w refl [] piece [] (sym (append-nil piece))
alone {piece = piece} {result = Err e} w = cut_short w refl refl [] piece [] [] (sym (append-nil piece))

-- a failure within a longer piece
pub fails_within : {tells : Bool} {old new : Channel} {held after front : List ℕ} {result answer : Result (Unit {0}) Failed}
    → Emits tells old new held after front result → IsErr result → IsErr answer
    → (bytes more now : List ℕ) → bytes ≡ front ++ more → Emits tells old new held now bytes answer
fails_within {held = held} {front = front} {answer = answer} x err failed bytes more now whole = record {
  gained = x.gained;
  rest = x.rest ++ more;
  balance = ap (λ (l : List ℕ). held ++ l) whole ∙ sym (append_assoc held front more)
      ∙ ap (λ (l : List ℕ). l ++ more) x.balance ∙ append_assoc x.gained x.rest more;
  done = λ ok. absurd (not_both answer ok failed);
  written = x.written;
  flushed = x.flushed;
  taken = x.taken;
  left = x.left;
  name = x.name;
  faults = still_failed x.faults err failed;
}

-- nothing happened
pub nothing : {tells : Bool} (channel : Channel) (held : List ℕ) → Emits tells channel channel held held [] (Ok tt)
nothing channel held = record {
  gained = [];
  rest = held;
  balance = append-nil held;
  done = λ _. refl;
  written = λ _. sym (append-nil channel.written);
  flushed = refl;
  taken = refl;
  left = refl;
  name = refl;
  faults = record { no_less = omega arith; cause = λ err. absurd (not_both (Ok tt) refl err); unfailed = λ _. refl };
}

-- the text of a list's front, and of the rest
pub flat_map-take-more : {X : Type 0} (f : X → List ℕ) (xs : List X) (i : ℕ) (d : X) → i < length xs
    → flat_map f (take (i + 1) xs) ≡ flat_map f (take i xs) ++ f (get_or xs i d)
flat_map-take-more f xs i d lt =
    ap (flat_map f) (take_more xs i d lt) ∙ flat_map-append f (take i xs) (get_or xs i d ∷ [])
    ∙ ap (λ (l : List ℕ). flat_map f (take i xs) ++ l) (append-nil (f (get_or xs i d)))

pub flat_map-split : {X : Type 0} (f : X → List ℕ) (xs : List X) (n : ℕ) → flat_map f xs ≡ flat_map f (take n xs) ++ flat_map f (drop n xs)
flat_map-split f xs n = ap (flat_map f) (sym (take-append-drop n xs)) ∙ flat_map-append f (take n xs) (drop n xs)

-- the same bytes, written in another way
pub same_text : {tells : Bool} {old new : Channel} {held after bytes text : List ℕ} {result : Result (Unit {0}) Failed}
    → Emits tells old new held after bytes result → bytes ≡ text → Emits tells old new held after text result
same_text {tells = tells} {old = old} {new = new} {held = held} {after = after} {result = result} x is =
    subst (λ (l : List ℕ). Emits tells old new held after l result) is x

-- one more item of a list, and a failure at it
pub one_more : {X : Type 0} {tells : Bool} {a b c : Channel} {held middle after piece : List ℕ} {result : Result (Unit {0}) Failed}
    (f : X → List ℕ) (xs : List X) (i : ℕ) (d : X) → i < length xs
    → Emits tells a b held middle (flat_map f (take i xs)) (Ok tt) → piece ≡ f (get_or xs i d) → Emits tells b c middle after piece result
    → Emits tells a c held after (flat_map f (take (i + 1) xs)) result
one_more f xs i d lt x is y =
    same_text (in_turn x refl y) (ap (λ (l : List ℕ). flat_map f (take i xs) ++ l) is ∙ sym (flat_map-take-more f xs i d lt))

pub fails_at : {X : Type 0} {tells : Bool} {a b c : Channel} {held middle after piece : List ℕ} {result answer : Result (Unit {0}) Failed}
    (f : X → List ℕ) (xs : List X) (i : ℕ) (d : X) (now : List ℕ) → i < length xs
    → Emits tells a b held middle (flat_map f (take i xs)) (Ok tt) → piece ≡ f (get_or xs i d) → Emits tells b c middle after piece result
    → IsErr result → IsErr answer → Emits tells a c held now (flat_map f xs) answer
fails_at f xs i d now lt x is y err failed =
    fails_within (one_more f xs i d lt x is y) err failed (flat_map f xs) (flat_map f (drop (i + 1) xs)) now (flat_map-split f xs (i + 1))

-- what was emitted of a piece, and the rest of it, written at the end
pub written_out : {tells : Bool} {a b c : Channel} {held bytes last : List ℕ} {result : Result (Unit {0}) Failed}
    → Emits tells a b [] held bytes (Ok tt) → last ≡ held → WritesAll tells b c last result → WritesAll tells a c bytes result
written_out {a = a} {c = c} {bytes = bytes} {last = last} x is w =
    let parts : bytes ≡ x.gained ++ last = x.balance ∙ ap (λ (l : List ℕ). x.gained ++ l) (sym (is ∙ x.done refl)) in
    record {
      done = λ t ok. w.done t ok ∙ ap (λ (l : List ℕ). l ++ last) (x.written t) ∙ append_assoc a.written x.gained last
          ∙ ap (λ (l : List ℕ). a.written ++ l) (sym parts);
      failed = λ t err.
          let front = w.failed t err in (
            length x.gained + front.0,
            front.1
                ∙ ap (λ (l : List ℕ). l ++ take front.0 last) (x.written t) ∙ append_assoc a.written x.gained (take front.0 last)
                ∙ ap (λ (l : List ℕ). a.written ++ l) (sym (ap (take (length x.gained + front.0)) parts
                ∙ take-append-add x.gained last front.0)),
          );
      flushed = w.flushed ∙ x.flushed;
      taken = w.taken ∙ x.taken;
      left = w.left ∙ x.left;
      name = w.name ∙ x.name;
      faults = record {
        no_less = omega (arith, x.faults.no_less, w.faults.no_less);
        cause = λ err. omega (arith, x.faults.no_less, w.faults.cause err);
        unfailed = λ ok. w.faults.unfailed ok ∙ x.faults.unfailed refl;
      };
    }

-- a piece that was cut before its end
pub cut_before : {tells : Bool} {a b : Channel} {held bytes : List ℕ} {result answer : Result (Unit {0}) Failed}
    → Emits tells a b [] held bytes result → IsErr result → IsErr answer → WritesAll tells a b bytes answer
cut_before {a = a} {bytes = bytes} {answer = answer} x err failed = record {
  done = λ t ok. absurd (not_both answer ok failed);
  failed = λ t _. (
    length x.gained,
    x.written t ∙ ap (λ (l : List ℕ). a.written ++ l) (sym (ap (take (length x.gained)) x.balance ∙ take-append_seam x.gained x.rest)),
  );
  flushed = x.flushed;
  taken = x.taken;
  left = x.left;
  name = x.name;
  faults = still_failed x.faults err failed;
}

-- five parts of a text, from the second, the third and the fourth on
pub from_second : (a b c d e : List ℕ) → (((a ++ b) ++ c) ++ d) ++ e ≡ a ++ (b ++ (c ++ (d ++ e)))
from_second a b c d e = simp append_assoc

pub from_third : (a b c d e : List ℕ) → (((a ++ b) ++ c) ++ d) ++ e ≡ (a ++ b) ++ (c ++ (d ++ e))
from_third a b c d e = append_assoc ((a ++ b) ++ c) d e ∙ append_assoc (a ++ b) c (d ++ e)

pub from_fourth : (a b c d e : List ℕ) → (((a ++ b) ++ c) ++ d) ++ e ≡ ((a ++ b) ++ c) ++ (d ++ e)
from_fourth a b c d e = append_assoc ((a ++ b) ++ c) d e

-- four parts of a text, from the second on
pub from_second-4 : (a b c d : List ℕ) → ((a ++ b) ++ c) ++ d ≡ a ++ (b ++ (c ++ d))
from_second-4 a b c d = append_assoc (a ++ b) c d ∙ append_assoc a b (c ++ d)
