-- How writes of parts make the write of a whole text.
use Rattle.std.proofs.Common.{◌≡◌, ℕ, ◌+◌, Bool, List, [], ◌++◌, take, drop, length, refl, sym, ◌∙◌, ap, append_assoc, Ok, Err, arith}
use Rattle.std.specs.Prelude.{Result, IsOk, IsErr, IsTrue}
use Rattle.std.proofs.lemmas.List.{append-nil, take-append-drop}
use Rattle.std.proofs.Math.Seq.{take-append_seam, take-append-add}
use Rattle.host_io.specs.Channel.{Channel, WritesAll}
use Rattle.host_io.specs.declared.source.Failed.{Failed}

-- A text is being written: the sink has what comes before the rest.
pub record Underway (tells : Bool) (old new : Channel) (text rest : List ℕ) : Type 0 where
  pub gained : List ℕ
  pub balance : text ≡ gained ++ rest
  pub written : IsTrue tells → new.written ≡ old.written ++ gained
  pub flushed : new.flushed ≡ old.flushed
  pub taken : new.taken ≡ old.taken
  pub left : new.left ≡ old.left
  pub name : new.name ≡ old.name
  pub faults : new.faults ≡ old.faults

-- no answer is both
not_both : {T : Type 0} (r : Result T Failed) → IsOk r → IsErr r → ⊥
not_both (Ok u) ok err = cc
not_both (Err e) ok err = cc

-- nothing was written yet
pub start : {tells : Bool} {channel : Channel} (text : List ℕ) → Underway tells channel channel text text
start {channel = channel} text = record {
  gained = [];
  balance = refl;
  written = λ _. sym (append-nil channel.written);
  flushed = refl;
  taken = refl;
  left = refl;
  name = refl;
  faults = refl;
}

-- one more part was written
pub went_on : {T : Type 0} {tells : Bool} {a b c : Channel} {text rest piece : List ℕ} {result : Result T Failed}
    → Underway tells a b text rest → WritesAll tells b c piece result → IsOk result
    → (more : List ℕ) → rest ≡ piece ++ more → Underway tells a c text more
went_on {a = a} {piece = piece} u w ok more parts = record {
  gained = u.gained ++ piece;
  balance = u.balance ∙ ap (λ (l : List ℕ). u.gained ++ l) parts ∙ sym (append_assoc u.gained piece more);
  written = λ t. w.done t ok ∙ ap (λ (l : List ℕ). l ++ piece) (u.written t) ∙ append_assoc a.written u.gained piece;
  flushed = w.flushed ∙ u.flushed;
  taken = w.taken ∙ u.taken;
  left = w.left ∙ u.left;
  name = w.name ∙ u.name;
  faults = w.faults.unfailed ok ∙ u.faults;
}

-- all of it was written
pub complete : {T : Type 0} {tells : Bool} {a b : Channel} {text : List ℕ} {answer : Result T Failed} → Underway tells a b text []
    → IsOk answer → WritesAll tells a b text answer
complete {a = a} {answer = answer} u good = record {
  done = λ t _. u.written t ∙ ap (λ (l : List ℕ). a.written ++ l) (sym (u.balance ∙ append-nil u.gained));
  failed = λ _ err. absurd (not_both answer good err);
  flushed = u.flushed;
  taken = u.taken;
  left = u.left;
  name = u.name;
  faults = record { no_less = omega (arith, u.faults); cause = λ err. absurd (not_both answer good err); unfailed = λ _. u.faults };
}

-- a write of the rest, or of a front of it
pub ended : {T : Type 0} {tells : Bool} {a b c : Channel} {text piece : List ℕ} {result : Result T Failed} → Underway tells a b text piece
    → WritesAll tells b c piece result → WritesAll tells a c text result
ended {a = a} {piece = piece} u w = record {
  done = λ t ok. w.done t ok ∙ ap (λ (l : List ℕ). l ++ piece) (u.written t) ∙ append_assoc a.written u.gained piece
      ∙ ap (λ (l : List ℕ). a.written ++ l) (sym u.balance);
  failed = λ t err.
      let front = w.failed t err in (
        length u.gained + front.0,
        front.1 ∙ ap (λ (l : List ℕ). l ++ take front.0 piece) (u.written t) ∙ append_assoc a.written u.gained (take front.0 piece)
            ∙ ap (λ (l : List ℕ). a.written ++ l) (sym (ap (take (length u.gained + front.0)) u.balance
            ∙ take-append-add u.gained piece front.0)),
      );
  flushed = w.flushed ∙ u.flushed;
  taken = w.taken ∙ u.taken;
  left = w.left ∙ u.left;
  name = w.name ∙ u.name;
  faults = record {
    no_less = omega (arith, u.faults, w.faults.no_less);
    cause = λ err. omega (arith, u.faults, w.faults.cause err);
    unfailed = λ ok. w.faults.unfailed ok ∙ u.faults;
  };
}

-- a write that failed, of a part with more behind it
pub failed_within : {T U : Type 0} {tells : Bool} {a b c : Channel} {text rest piece : List ℕ} {result : Result T Failed}
    {answer : Result U Failed} → Underway tells a b text rest
    → WritesAll tells b c piece result → IsErr result → IsErr answer → (more : List ℕ) → rest ≡ piece ++ more
    → WritesAll tells a c text answer
failed_within {a = a} {text = text} {piece = piece} {answer = answer} u w err failed more parts = record {
  done = λ t ok. absurd (not_both answer ok failed);
  failed = λ t _.
      let front = w.failed t err in
      let halves : text ≡ (u.gained ++ take front.0 piece) ++ (drop front.0 piece ++ more) =
      u.balance ∙ ap (λ (l : List ℕ). u.gained ++ l) (parts ∙ ap (λ (l : List ℕ). l ++ more) (sym (take-append-drop front.0 piece))
      ∙ append_assoc (take front.0 piece) (drop front.0 piece) more)
      ∙ sym (append_assoc u.gained (take front.0 piece) (drop front.0 piece ++ more)) in (
        length (u.gained ++ take front.0 piece),
        front.1 ∙ ap (λ (l : List ℕ). l ++ take front.0 piece) (u.written t) ∙ append_assoc a.written u.gained (take front.0 piece)
            ∙ ap (λ (l : List ℕ). a.written ++ l) (sym (ap (take (length (u.gained ++ take front.0 piece))) halves
            ∙ take-append_seam (u.gained ++ take front.0 piece) (drop front.0 piece ++ more))),
      );
  flushed = w.flushed ∙ u.flushed;
  taken = w.taken ∙ u.taken;
  left = w.left ∙ u.left;
  name = w.name ∙ u.name;
  faults = record {
    no_less = omega (arith, u.faults, w.faults.no_less);
    cause = λ _. omega (arith, u.faults, w.faults.cause err);
    unfailed = λ ok. absurd (not_both answer ok failed);
  };
}
