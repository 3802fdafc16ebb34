-- A text that is emitted piece by piece.
use Rattle.std.proofs.Common.{◌≡◌, ◌≤◌, ◌<◌, ℕ, Bool, true, false, ◌||◌, List, [], ◌∷◌, ◌++◌, Ok, Err, length, refl, sym, ap, ◌∙◌}
use Rattle.std.proofs.Common.{append_assoc, subst, arith}
use Rattle.std.specs.Prelude.{Result, IsErr, IsOk, decimal, if◌then◌else◌}
use Rattle.std.proofs.lemmas.Bool.{ne_eqb}
use Rattle.std.proofs.lemmas.List.{append-nil}
use Rattle.host_io.specs.declared.source.Failed.{Failed}
use Rattle.host_io.specs.Channel.{Channel, WritesAll}
use Rattle.host_io.specs.Emitted.{Emits}
use Rattle.host_io.proofs.Emitting.{cut_before, fails_within, in_turn, nothing, same_text, written_out}
use Rattle.proof_trim.specs.Packed.{number_of}
use Rattle.proof_trim.specs.Lines.{IsOfCodes, Puts, behind_codes_at, next_place, part_at, text_from}
use Rattle.proof_trim.specs.declared.place.Place.{Place}
use Rattle.proof_trim.specs.declared.place.Place.TheVariants.{Between, Own, Clause, Hints, Deleted}

-- What was emitted of a text since these bytes were held back, and what is left of it.
pub record Spells (tells : Bool) (start now : Channel) (first held left whole : List ℕ) : Type 0 where
  pub text : List ℕ
  pub emits : Emits tells start now first held text (Ok tt)
  pub parts : text ++ left ≡ whole

-- at first
pub spells_begun : {tells : Bool} (start : Channel) (held whole : List ℕ) → Spells tells start start held held whole whole
spells_begun start held whole = record { text = []; emits = nothing start held; parts = refl }

pub spells_none : {tells : Bool} (start : Channel) (held whole : List ℕ) → held ≡ [] → Spells tells start start [] held whole whole
spells_none {tells = tells} start held whole empty = record {
  text = [];
  emits = subst (λ (h : List ℕ). Emits tells start start [] h [] (Ok tt)) (sym empty) (nothing start []);
  parts = refl;
}

-- one part more
part_more : (left part next text whole : List ℕ) → text ++ left ≡ whole → left ≡ part ++ next → (text ++ part) ++ next ≡ whole
part_more left part next text whole so_far is = append_assoc text part next ∙ ap (λ (l : List ℕ). text ++ l) (sym is) ∙ so_far

pub spells_on : {tells : Bool} {start now new : Channel} {first held after left part next whole : List ℕ}
    → Spells tells start now first held left whole
    → left ≡ part ++ next → Emits tells now new held after part (Ok tt) → Spells tells start new first after next whole
spells_on {left = left} {part = part} {next = next} {whole = whole} s is emits = record {
  text = s.text ++ part;
  emits = in_turn s.emits refl emits;
  parts = part_more left part next s.text whole s.parts is;
}

-- a failure at it
pub spells_fail : {tells : Bool} {start now new : Channel} {held after left part whole : List ℕ}
    {result answer : Result (Unit {0}) Failed} → Spells tells start now [] held left whole → (next : List ℕ) → left ≡ part ++ next
    → Emits tells now new held after part result → IsErr result → IsErr answer → WritesAll tells start new whole answer
spells_fail {left = left} {part = part} {whole = whole} {answer = answer} s next is emits err failed =
    cut_before {result = answer}
    (fails_within (in_turn s.emits refl emits) err failed whole next [] (sym (part_more left part next s.text whole s.parts is)))
    failed failed

-- all of it
pub spells_all : {tells : Bool} {start now new : Channel} {held last left whole : List ℕ} {result : Result (Unit {0}) Failed}
    → Spells tells start now [] held left whole → left ≡ [] → last ≡ held → WritesAll tells now new last result
    → WritesAll tells start new whole result
spells_all s none same writes =
    written_out (same_text s.emits (sym (append-nil s.text) ∙ ap (λ (l : List ℕ). s.text ++ l) (sym none) ∙ s.parts)) same writes

-- Parts that calls put: what was emitted before one of them and by it, whether it succeeds or not.
pub puts_behind : {tells : Bool} {start now new : Channel} {first held after left begun next whole : List ℕ}
    {result : Result (Unit {0}) Failed} → Spells tells start now first held left whole → left ≡ begun
    → Puts tells now new held after begun next result → Puts tells start new first after whole next result
puts_behind {left = left} {begun = begun} {whole = whole} s same p = record {
  text = s.text ++ p.text;
  rest = p.rest;
  emits = in_turn s.emits refl p.emits;
  parts = part_more left p.text p.rest s.text whole s.parts (same ∙ sym p.parts);
  left = p.left;
}

-- what is left then
pub spells_put : {tells : Bool} {start now : Channel} {first held whole next : List ℕ} → Puts tells start now first held whole next (Ok tt)
    → Spells tells start now first held next whole
spells_put p = record {
  text = p.text;
  emits = p.emits;
  parts = ap (λ (l : List ℕ). p.text ++ l) (sym (p.left refl)) ∙ p.parts;
}

-- the end of a call, where this is left
pub puts_all : {tells : Bool} {start now : Channel} {first held left next whole : List ℕ} → Spells tells start now first held left whole
    → left ≡ next → Puts tells start now first held whole next (Ok tt)
puts_all {left = left} s same = record { text = s.text; rest = left; emits = s.emits; parts = s.parts; left = λ _. same }

-- a call that fails by one that failed
not_both : (r : Result (Unit {0}) Failed) → IsOk r → IsErr r → ⊥
not_both (Ok u) ok err = cc
not_both (Err e) ok err = cc

pub puts_fail : {tells : Bool} {old new : Channel} {held after whole left other : List ℕ} {result answer : Result (Unit {0}) Failed}
    → Puts tells old new held after whole left result → IsErr result → IsErr answer → Puts tells old new held after whole other answer
puts_fail {after = after} {answer = answer} p err failed = record {
  text = p.text;
  rest = p.rest;
  emits = fails_within p.emits err failed p.text [] after (sym (append-nil p.text));
  parts = p.parts;
  left = λ ok. absurd (not_both answer ok failed);
}

pub puts_cut : {tells : Bool} {start now new : Channel} {first held after left part other whole : List ℕ}
    {result answer : Result (Unit {0}) Failed} → Spells tells start now first held left whole → (next : List ℕ) → left ≡ part ++ next
    → Emits tells now new held after part result → IsErr result → IsErr answer → Puts tells start new first after whole other answer
puts_cut {after = after} {left = left} {part = part} {whole = whole} {answer = answer} s next is emits err failed = record {
  text = s.text ++ part;
  rest = next;
  emits = fails_within (in_turn s.emits refl emits) err failed (s.text ++ part) [] after (sym (append-nil (s.text ++ part)));
  parts = part_more left part next s.text whole s.parts is;
  left = λ ok. absurd (not_both answer ok failed);
}

-- the whole text is cut by it
pub written_cut : {tells : Bool} {start new : Channel} {after whole left : List ℕ} {result answer : Result (Unit {0}) Failed}
    → Puts tells start new [] after whole left result → IsErr result → IsErr answer → WritesAll tells start new whole answer
written_cut {whole = whole} {answer = answer} p err failed =
    cut_before {result = answer} (fails_within p.emits err failed whole p.rest [] (sym p.parts)) failed failed

-- a part that is put behind what is held back
pub put_behind : {tells : Bool} {old new : Channel} {held middle after part : List ℕ} {result : Result (Unit {0}) Failed}
    → Emits tells old new held middle [] result → IsOk result → after ≡ middle ++ part → Emits tells old new held after part (Ok tt)
put_behind {tells = tells} {old = old} {new = new} {held = held} {middle = middle} {after = after} {part = part} x ok put = record {
  gained = x.gained;
  rest = x.rest ++ part;
  balance = ap (λ (l : List ℕ). l ++ part) (sym (append-nil held) ∙ x.balance) ∙ append_assoc x.gained x.rest part;
  done = λ _. put ∙ ap (λ (l : List ℕ). l ++ part) (x.done ok);
  written = x.written;
  flushed = x.flushed;
  taken = x.taken;
  left = x.left;
  name = x.name;
  faults = record { no_less = x.faults.no_less; cause = λ err. cc; unfailed = λ _. x.faults.unfailed ok };
}

-- The parts of packed steps: a deletion and an addition begin,
pub deletion_begun : (there : ℕ → Bool) (kind id : ℕ) (row rest : List ℕ) → kind ≡ 1 → row ≡ id ∷ rest
    → text_from there Between (kind ∷ row) ≡ text_from there (Deleted id false) rest
deletion_begun there kind id row rest one is = λ i. text_from there Between (one i ∷ is i)

pub addition_begun : (there : ℕ → Bool) (kind id : ℕ) (row rest : List ℕ) → (kind ≡ 1 → ⊥) → row ≡ id ∷ rest
    → text_from there Between (kind ∷ row) ≡ decimal id ++ text_from there Clause rest
addition_begun there kind id row rest other is =
    ap (λ (l : List ℕ). text_from there Between (kind ∷ l)) is
    ∙ (λ i. (if ne_eqb kind 1 other i then [] else decimal id)
    ++ text_from there (if ne_eqb kind 1 other i then Deleted id false else Clause) rest)

-- a code of a clause or of hints,
pub code_put : (there : ℕ → Bool) (place : Place) → IsOfCodes place → (code : ℕ) (row rest : List ℕ) → row ≡ code ∷ rest
    → text_from there place row ≡ part_at place code false ++ text_from there (next_place place code false) rest
code_put there Between never code row rest is = absurd never
code_put there (Own kind) never code row rest is = absurd never
code_put there Clause of code row rest is = ap (text_from there Clause) is
code_put there Hints of code row rest is = ap (text_from there Hints) is
code_put there (Deleted id begun) never code row rest is = absurd never

same_place : (place : Place) → IsOfCodes place → (code : ℕ) → (code ≡ 0 → ⊥) → next_place place code false ≡ place
same_place Between never code other = absurd never
same_place (Own kind) never code other = absurd never
same_place Clause of code other = λ i. if ne_eqb code 0 other i then Hints else Clause
same_place Hints of code other = λ i. if ne_eqb code 0 other i then Between else Hints
same_place (Deleted id begun) never code other = absurd never

pub code_on : (there : ℕ → Bool) (place : Place) → IsOfCodes place → (code : ℕ) (row rest : List ℕ) → row ≡ code ∷ rest
    → (code ≡ 0 → ⊥) → text_from there place row ≡ part_at place code false ++ text_from there place rest
code_on there place of code row rest is other =
    code_put there place of code row rest is
    ∙ ap (λ (p : Place). part_at place code false ++ text_from there p rest) (same_place place of code other)

pub code_last : (there : ℕ → Bool) (place : Place) → IsOfCodes place → (code : ℕ) (row rest : List ℕ) → row ≡ code ∷ rest → code ≡ 0
    → text_from there place row ≡ part_at place code false ++ text_from there (behind_codes_at place) rest
code_last there place of code row rest is zero =
    code_put there place of code row rest is
    ∙ ap (λ (n : ℕ). part_at place code false ++ text_from there (next_place place n false) rest) zero

-- and a number of a deletion
begun_by : (id : ℕ) (begun there : Bool) → (if there then Deleted id true else Deleted id begun) ≡ Deleted id (begun || there)
begun_by id true true = refl
begun_by id false true = refl
begun_by id true false = refl
begun_by id false false = refl

pub deleted_put : (there : ℕ → Bool) (id : ℕ) (begun : Bool) (code : ℕ) (row rest : List ℕ) (is_there : Bool) → row ≡ code ∷ rest
    → is_there ≡ there (number_of code) → text_from there (Deleted id begun) row
    ≡ part_at (Deleted id begun) code is_there ++ text_from there (next_place (Deleted id begun) code is_there) rest
deleted_put there id begun code row rest is_there is same =
    ap (text_from there (Deleted id begun)) is
    ∙ sym (λ i. part_at (Deleted id begun) code (same i) ++ text_from there (next_place (Deleted id begun) code (same i)) rest)

pub deleted_on : (there : ℕ → Bool) (id : ℕ) (begun : Bool) (code : ℕ) (row rest : List ℕ) (is_there : Bool) → row ≡ code ∷ rest
    → is_there ≡ there (number_of code) → (code ≡ 0 → ⊥) → text_from there (Deleted id begun) row
    ≡ part_at (Deleted id begun) code is_there ++ text_from there (Deleted id (begun || is_there)) rest
deleted_on there id begun code row rest is_there is same other =
    deleted_put there id begun code row rest is_there is same
    ∙ (λ i. part_at (Deleted id begun) code is_there
    ++ text_from there (if ne_eqb code 0 other i then Between else if is_there then Deleted id true else Deleted id begun) rest)
    ∙ ap (λ (p : Place). part_at (Deleted id begun) code is_there ++ text_from there p rest) (begun_by id begun is_there)

pub deleted_last : (there : ℕ → Bool) (id : ℕ) (begun : Bool) (code : ℕ) (row rest : List ℕ) (is_there : Bool) → row ≡ code ∷ rest
    → is_there ≡ there (number_of code) → code ≡ 0 → text_from there (Deleted id begun) row
    ≡ part_at (Deleted id begun) code is_there ++ text_from there Between rest
deleted_last there id begun code row rest is_there is same zero =
    deleted_put there id begun code row rest is_there is same
    ∙ ap (λ (n : ℕ). part_at (Deleted id begun) code is_there ++ text_from there (next_place (Deleted id begun) n is_there) rest) zero

-- nothing is left of an empty row
pub none_left : (there : ℕ → Bool) (place next : Place) (row left : List ℕ) → row ≡ [] → left ≡ []
    → text_from there place row ≡ text_from there next left
none_left there place next row left none empty = ap (text_from there place) none ∙ sym (ap (text_from there next) empty)

pub one_shorter : (number : ℕ) (row rest now : List ℕ) → row ≡ number ∷ rest → length now ≤ length rest → length now < length row
one_shorter number row rest now is less =
    let all : length row ≡ length (number ∷ rest) = ap length is in
    omega (arith, all, less)
