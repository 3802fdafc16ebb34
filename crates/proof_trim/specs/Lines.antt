-- The text of steps on a stack of numbers, of which the first one is on top: what each number gives, by where it comes.
use Rattle.std.specs.Prelude.{◌≡◌, ℕ, Bool, true, false, List, [], ◌∷◌, ◌++◌, decimal, nat_eq, if◌then◌else◌, Result, IsOk, ⊤}
use Rattle.host_io.specs.Channel.{Channel}
use Rattle.host_io.specs.Emitted.{Emits}
use Rattle.host_io.specs.declared.source.Failed.{Failed}
use Rattle.proof_trim.specs.Packed.{code_text, number_of}
use Rattle.proof_trim.specs.declared.place.Place.{Place}
use Rattle.proof_trim.specs.declared.place.Place.TheVariants.{Between, Own, Clause, Hints, Deleted}

-- behind a kind (1 is that of a deletion)
abbrev pub behind_kind : ℕ → ℕ → Place
behind_kind kind id = if nat_eq kind 1 then Deleted id false else Clause

-- where the next number comes, if this one is there or not
abbrev pub next_place : Place → ℕ → Bool → Place
next_place Between number there = Own number
next_place (Own kind) number there = behind_kind kind number
next_place Clause number there = if nat_eq number 0 then Hints else Clause
next_place Hints number there = if nat_eq number 0 then Between else Hints
next_place (Deleted id begun) number there = if nat_eq number 0 then Between else if there then Deleted id true else Deleted id begun

-- what begins the line of a deletion: its own number and the word `d`
abbrev pub head_of_deletion : Bool → ℕ → List ℕ
head_of_deletion begun id = if begun then [] else decimal id ++ 32 ∷ 100 ∷ []

-- what this number gives (0 ends a clause, or a line)
abbrev pub part_at : Place → ℕ → Bool → List ℕ
part_at Between number there = []
part_at (Own kind) number there = if nat_eq kind 1 then [] else decimal number
part_at Clause number there = if nat_eq number 0 then 32 ∷ 48 ∷ [] else code_text number
part_at Hints number there = if nat_eq number 0 then 32 ∷ 48 ∷ 10 ∷ [] else code_text number
part_at (Deleted id begun) number there =
    if nat_eq number 0 then (if begun then 32 ∷ 48 ∷ 10 ∷ [] else [])
    else if there then head_of_deletion begun id ++ code_text number else []

-- and what all of them give, where this says which numbers are there
abbrev pub text_from : (ℕ → Bool) → Place → List ℕ → List ℕ
text_from there place [] = []
text_from there place (number ∷ numbers) =
    part_at place number (there (number_of number)) ++ text_from there (next_place place number (there (number_of number))) numbers

-- in a clause, or in hints
abbrev pub IsOfCodes : Place → Type 0
IsOfCodes Between = ⊥
IsOfCodes (Own kind) = ⊥
IsOfCodes Clause = ⊤
IsOfCodes Hints = ⊤
IsOfCodes (Deleted id begun) = ⊥

-- where the next number comes behind the 0 that ends these codes
abbrev pub behind_codes_at : Place → Place
behind_codes_at place = next_place place 0 false

-- A front of a text was emitted; where the call succeeds, all but what comes next.
pub record Puts (tells : Bool) (old new : Channel) (held after whole next : List ℕ) (result : Result (Unit {0}) Failed) : Type 0 where
  pub text : List ℕ
  pub rest : List ℕ
  pub emits : Emits tells old new held after text result
  pub parts : text ++ rest ≡ whole
  pub left : IsOk result → rest ≡ next
