-- The line as it is kept says what the line's words say.
use Rattle.std.proofs.Common.{◌≡◌, ℕ, suc, ◌+◌, ◌-◌, ◌<◌, ◌≤◌, ◌==◌, Bool, true, false, ◌||◌, ◌&&◌, List, [], ◌∷◌, ◌++◌, length, map}
use Rattle.std.proofs.Common.{Option, None, Some, Result, Ok, Err, refl, sym, ap, subst, ◌∙◌, arith, inl, inr}
use Rattle.std.specs.Prelude.{◌⊎◌, nat_lt, nat_le, if◌then◌else◌, replicate, not}
use Rattle.std.specs.List.{list_any}
use Rattle.std.specs.Option.{option_map, option_and_then}
use Rattle.std.proofs.lemmas.Bool.{cases_eq, le-leb}
use Rattle.std.proofs.lemmas.Bool.Decides.{nat_tests}
use Rattle.cnf_base.specs.Formula.{Formula}
use Rattle.cnf_base.specs.Number.{plain_number}
use Rattle.cnf_base.specs.ProofText.{all_given}
use Rattle.cnf_base.specs.Text.{Word, Row}
use Rattle.text_scan.specs.Capped.{capped}
use Rattle.text_scan.specs.Items.{Items, the_end, too_long, next_word}
use Rattle.schedule_plan.specs.declared.plan.Move.{Move}
use Rattle.schedule_plan.specs.declared.plan.Move.TheVariants.{Push, And, Exists, ExistsAll}
use Rattle.schedule_plan.specs.declared.schedule.error.PlanKind.{PlanKind}
use Rattle.schedule_plan.specs.declared.schedule.error.PlanKind.TheVariants.{ClauseRange, ClauseTwice, StackShort, VariableRange}
use Rattle.schedule_plan.specs.declared.schedule.error.PlanKind.TheVariants.{VariableInUse}
use Rattle.schedule_plan.specs.declared.schedule.line.Command.{Command}
use Rattle.schedule_plan.specs.declared.schedule.line.Command.TheVariants.{Absent, Pushes, Conjoins, Quantifies, QuantifiesAll, Unknown}
use Rattle.schedule_plan.specs.Plan.{Term, Stage, is_pushed, holds_later, term_has}
use Rattle.schedule_plan.specs.ScheduleText.{ScheduleText, overlong, is_letter, conjunctions, command_moves, moves_of_words, fault_of_move}
use Rattle.schedule_plan.specs.ScheduleText.{fault_of_all, fault_of_exists, is_in_use, is_out_of_range, taken, line_taken, behind, at_end, has_words, row_then, no_row, row_of_word}
use Rattle.schedule_plan.specs.ScheduleText.{row_with, schedule_after}
use Rattle.schedule_plan.specs.ScheduleState.{DraftLine, no_draft, command_of, draft_of_word, draft_with, with_given, is_command, is_open}
use Rattle.schedule_plan.specs.ScheduleState.{moves_with, moves_of_draft, draft_taken, drafted}
use Rattle.schedule_plan.proofs.Standing.{refused, accepted}
use Rattle.schedule_plan.proofs.Steps.{short_fault}
use Rattle.schedule_plan.proofs.Reached.{Reached, reached_none, reached_next, taken_reached, few_stacked, ok_is, err_is_ok}

-- one more number
pub given_push : (f : List ℕ → Option ℕ) (words : List (List ℕ)) (word : List ℕ) → all_given (map f (words ++ word ∷ []))
    ≡ with_given (all_given (map f words)) (f word)
given_push f [] word = elim (f word) as (λ x. all_given (x ∷ []) ≡ with_given (Some []) x) [ None ↦ refl | Some x ↦ refl ]
given_push f (next ∷ words) word = elim (f next) as (λ x. all_given (x ∷ map f (words ++ word ∷ []))
    ≡ with_given (all_given (x ∷ map f words)) (f word)) [
      | None ↦ refl
      | Some x ↦ ap (option_map (λ xs. x ∷ xs)) (given_push f words word)
          ∙ elim (all_given (map f words)) as (λ (xs : Option (List ℕ)). option_map (λ ys. x ∷ ys) (with_given xs (f word))
          ≡ with_given (option_map (λ ys. x ∷ ys) xs) (f word)) [
            | None ↦ refl
            | Some xs ↦ elim (f word) as (λ y. option_map (λ ys. x ∷ ys) (with_given (Some xs) y)
                ≡ with_given (Some (x ∷ xs)) y) [ None ↦ refl | Some y ↦ refl ]
          ]
    ]

-- A number that is cut makes the fault that it makes whole.
pub record SameFault (formula : Formula) (stage : Stage) (one other : Move) : Type 0 where
  pub kind : PlanKind
  pub left : fault_of_move formula stage one ≡ Some kind
  pub right : fault_of_move formula stage other ≡ Some kind

cut_large : (n : ℕ) → (capped n ≡ n → ⊥) → 1000000000000000000 < n
cut_large n cut = grind (arith, nat_tests, cut)

out_of_range : (n bound : ℕ) → bound < n → (nat_lt 0 n && nat_le n bound) ≡ false
out_of_range n bound large = grind (arith, nat_tests, large)

push_cut : (formula : Formula) (stage : Stage) (i : ℕ) → length formula.clauses ≤ 10000000 → (capped i ≡ i → ⊥)
    → SameFault formula stage (Push (capped i)) (Push i)
push_cut formula stage i few cut =
    let large : 1000000000000000000 < i = cut_large i cut in
    let out : (nat_lt 0 i && nat_le i (length formula.clauses)) ≡ false = out_of_range i (length formula.clauses)
    (omega (arith, few, large)) in
    let cut_out : (nat_lt 0 (capped i) && nat_le (capped i) (length formula.clauses))
    ≡ false = out_of_range (capped i) (length formula.clauses) (omega (arith, few, large)) in
    record {
      kind = ClauseRange;
      left = ap (λ b. if not b then Some ClauseRange else if is_pushed stage.pushed (capped i) then Some ClauseTwice else None) cut_out;
      right = ap (λ b. if not b then Some ClauseRange else if is_pushed stage.pushed i then Some ClauseTwice else None) out;
    }

exists_cut_at : (formula : Formula) (stage : Stage) (x : ℕ) (stack : List Term) → stage.stack ≡ stack → formula.vars ≤ 1000000
    → (capped x ≡ x → ⊥) → SameFault formula stage (Exists (capped x)) (Exists x)
exists_cut_at formula stage x [] is few cut = record {
  kind = StackShort;
  left = ap (fault_of_exists formula stage (capped x)) is;
  right = ap (fault_of_exists formula stage x) is;
}
exists_cut_at formula stage x (top ∷ rest) is few cut =
    let large : 1000000000000000000 < x = cut_large x cut in
    let out : (nat_lt 0 x && nat_le x formula.vars) ≡ false = out_of_range x formula.vars (omega (arith, few, large)) in
    let cut_out : (nat_lt 0 (capped x) && nat_le (capped x) formula.vars)
    ≡ false = out_of_range (capped x) formula.vars (omega (arith, few, large)) in
    record {
      kind = VariableRange;
      left = ap (fault_of_exists formula stage (capped x)) is ∙ ap (λ b. if not b then Some VariableRange
          else if list_any (term_has formula (capped x)) rest || holds_later formula stage.pushed (capped x)
          (length formula.clauses) then Some VariableInUse else None) cut_out;
      right = ap (fault_of_exists formula stage x) is ∙ ap (λ b. if not b then Some VariableRange
          else if list_any (term_has formula x) rest || holds_later formula stage.pushed x
          (length formula.clauses) then Some VariableInUse else None) out;
    }

-- The moves of a line, one number after another.
numbers_cut : (formula : Formula) (move : ℕ → Move) → ((stage : Stage) (x : ℕ) → (capped x ≡ x → ⊥)
    → SameFault formula stage (move (capped x)) (move x)) → (xs : List ℕ) (done : List Move)
    → Reached formula done → taken formula done (map move (map capped xs)) ≡ taken formula done (map move xs)
numbers_cut formula move cut [] done on = refl
numbers_cut formula move cut (x ∷ xs) done on = elim (cases_eq (capped x) x) [
  | inl same ↦ ap (λ y. taken formula done (move y ∷ map move (map capped xs))) same
      ∙ elim (fault_of_move formula on.stage (move x)) as (λ f. fault_of_move formula on.stage (move x) ≡ f
      → taken formula done (move x ∷ map move (map capped xs)) ≡ taken formula done (move x ∷ map move xs)) [
        | None ↦ λ free. accepted formula done on.stage (move x) (map move (map capped xs)) on.possible free
            ∙ numbers_cut formula move cut xs (done ++ move x ∷ []) (reached_next formula done (move x) on free)
            ∙ sym (accepted formula done on.stage (move x) (map move xs) on.possible free)
        | Some kind ↦ λ fault. refused formula done on.stage (move x) (map move (map capped xs)) kind on.possible fault
            ∙ sym (refused formula done on.stage (move x) (map move xs) kind on.possible fault)
      ] refl
  | inr differ ↦
      let same = cut on.stage x differ in
      refused formula done on.stage (move (capped x)) (map move (map capped xs)) same.kind on.possible same.left
      ∙ sym (refused formula done on.stage (move x) (map move xs) same.kind on.possible same.right)
]

-- a set of which a number is cut
later_any : (p : ℕ → Bool) (x : ℕ) (xs : List ℕ) → list_any p xs ≡ true → list_any p (x ∷ xs) ≡ true
later_any p x xs any = elim (p x) as (λ b. (b || list_any p xs) ≡ true) [ true ↦ refl | false ↦ any ]

record IsOutside (formula : Formula) (xs : List ℕ) : Type 0 where
  cut : list_any (is_out_of_range formula) (map capped xs) ≡ true
  whole : list_any (is_out_of_range formula) xs ≡ true

cut_set : (formula : Formula) → formula.vars ≤ 1000000 → (xs : List ℕ) → (map capped xs ≡ xs) ⊎ IsOutside formula xs
cut_set formula few [] = inl refl
cut_set formula few (x ∷ xs) = elim (cases_eq (capped x) x) [
  | inl same ↦ elim (cut_set formula few xs) [
    | inl rest ↦ inl (ap (λ (y : ℕ). y ∷ map capped xs) same ∙ ap (λ (l : List ℕ). x ∷ l) rest)
    | inr out ↦ inr (record {
      cut = later_any (is_out_of_range formula) (capped x) (map capped xs) out.cut;
      whole = later_any (is_out_of_range formula) x xs out.whole;
    })
  ]
  | inr differ ↦
      let large : 1000000000000000000 < x = cut_large x differ in
      inr (record {
        cut = ap (λ b. not b || list_any (is_out_of_range formula) (map capped xs)) (out_of_range (capped x) formula.vars
            (omega (arith, few, large)));
        whole = ap (λ b. not b || list_any (is_out_of_range formula) xs) (out_of_range x formula.vars (omega (arith, few, large)));
      })
]

all_outside : (formula : Formula) (stage : Stage) (xs : List ℕ) (stack : List Term) → stage.stack ≡ stack → IsOutside formula xs
    → SameFault formula stage (ExistsAll (map capped xs)) (ExistsAll xs)
all_outside formula stage xs [] is out = record {
  kind = StackShort;
  left = ap (fault_of_all formula stage (map capped xs)) is;
  right = ap (fault_of_all formula stage xs) is;
}
all_outside formula stage xs (top ∷ rest) is out = record {
  kind = VariableRange;
  left = ap (fault_of_all formula stage (map capped xs)) is ∙ ap (λ b. if b then Some VariableRange
      else if list_any (is_in_use formula rest stage.pushed) (map capped xs) then Some VariableInUse else None) out.cut;
  right = ap (fault_of_all formula stage xs) is ∙ ap (λ b. if b then Some VariableRange
      else if list_any (is_in_use formula rest stage.pushed) xs then Some VariableInUse else None) out.whole;
}

set_cut : (formula : Formula) (xs : List ℕ) (done : List Move) → formula.vars ≤ 1000000 → Reached formula done
    → taken formula done (ExistsAll (map capped xs) ∷ []) ≡ taken formula done (ExistsAll xs ∷ [])
set_cut formula xs done few on = elim (cut_set formula few xs) [
  | inl same ↦ ap (λ (l : List ℕ). taken formula done (ExistsAll l ∷ [])) same
  | inr out ↦
      let same = all_outside formula on.stage xs on.stage.stack refl out in
      refused formula done on.stage (ExistsAll (map capped xs)) [] same.kind on.possible same.left
      ∙ sym (refused formula done on.stage (ExistsAll xs) [] same.kind on.possible same.right)
]

-- more terms are conjoined than clauses are there
many_terms : (formula : Formula) (n : ℕ) (done : List Move) → length formula.clauses + 1 ≤ n → 2 ≤ n → Reached formula done
    → line_taken formula done (conjunctions n []) ≡ Err StackShort
many_terms formula n done many two on =
    let ok : nat_le 2 n ≡ true = le-leb 2 n two in
    let terms : n - 1 ≡ suc (n - 2) = omega (arith, two) in
    ap (λ b. line_taken formula done (if b then Some (replicate (n - 1) And) else None)) ok
    ∙ ap (λ k. taken formula done (replicate k And)) terms
    ∙ short_fault formula (n - 2) done on.stage on.stage.stack on.possible refl (omega (arith, many, two, few_stacked formula done on))

terms_cut : (formula : Formula) (n : ℕ) (more : List ℕ) (done : List Move) → length formula.clauses ≤ 10000000 → Reached formula done
    → line_taken formula done (conjunctions (capped n) (map capped more)) ≡ line_taken formula done (conjunctions n more)
terms_cut formula n (next ∷ more) done few on = refl
terms_cut formula n [] done few on = elim (cases_eq (capped n) n) [
  | inl same ↦ ap (λ k. line_taken formula done (conjunctions k [])) same
  | inr differ ↦
      let large : 1000000000000000000 < n = cut_large n differ in
      many_terms formula (capped n) done (omega (arith, few, large)) (omega (arith, large)) on
      ∙ sym (many_terms formula n done (omega (arith, few, large)) (omega (arith, large)) on)
]

command_cut : (formula : Formula) (a b c d : Bool) (first : ℕ) (more : List ℕ) (done : List Move) → length formula.clauses ≤ 10000000
    → formula.vars ≤ 1000000 → Reached formula done
    → line_taken formula done (moves_with (if a then Pushes else if b then Conjoins else if c then Quantifies else if d then QuantifiesAll
    else Unknown) (map capped (first ∷ more)))
    ≡ line_taken formula done (if a then Some (map Push (first ∷ more)) else if b then conjunctions first more else if c then Some
    (map Exists (first ∷ more)) else if d then Some (ExistsAll (first ∷ more) ∷ []) else None)
command_cut formula true b c d first more done few small on = numbers_cut formula Push (λ stage i cut. push_cut formula stage i few cut)
    (first ∷ more) done on
command_cut formula false true c d first more done few small on = terms_cut formula first more done few on
command_cut formula false false true d first more done few small on =
    numbers_cut formula Exists (λ stage x cut. exists_cut_at formula stage x stage.stack refl small cut) (first ∷ more) done on
command_cut formula false false false true first more done few small on = set_cut formula (first ∷ more) done small on
command_cut formula false false false false first more done few small on = refl

no_numbers_moves : (command : Command) → moves_with command [] ≡ None
no_numbers_moves Absent = refl
no_numbers_moves Pushes = refl
no_numbers_moves Conjoins = refl
no_numbers_moves Quantifies = refl
no_numbers_moves QuantifiesAll = refl
no_numbers_moves Unknown = refl

-- the numbers as they are kept
abbrev number_of_word : List ℕ → Option ℕ
number_of_word word = option_map capped (plain_number word)

given_cut : (words : List (List ℕ)) → all_given (map number_of_word words) ≡ option_map (map capped) (all_given (map plain_number words))
given_cut [] = refl
given_cut (word ∷ words) = elim (plain_number word) as (λ x. all_given (option_map capped x ∷ map number_of_word words)
    ≡ option_map (map capped) (all_given (x ∷ map plain_number words))) [
      | None ↦ refl
      | Some x ↦ ap (option_map (λ xs. capped x ∷ xs)) (given_cut words)
          ∙ elim (all_given (map plain_number words)) as (λ (xs : Option (List ℕ)). option_map (λ ys. capped x
          ∷ ys) (option_map (map capped) xs) ≡ option_map (map capped) (option_map (λ ys. x ∷ ys) xs)) [
            | None ↦ refl
            | Some xs ↦ refl
          ]
    ]

moves_cut : (formula : Formula) (word : List ℕ) (numbers : Option (List ℕ)) (done : List Move) → length formula.clauses ≤ 10000000
    → formula.vars ≤ 1000000 → Reached formula done
    → line_taken formula done (option_and_then (moves_with (command_of word)) (option_map (map capped) numbers))
    ≡ line_taken formula done (option_and_then (command_moves word) numbers)
moves_cut formula word None done few small on = refl
moves_cut formula word (Some []) done few small on = ap (line_taken formula done) (no_numbers_moves (command_of word))
moves_cut formula word (Some (first ∷ more)) done few small on = command_cut formula (is_letter 99 word) (is_letter 97 word)
    (is_letter 113 word) (is_letter 101 word) first more done few small on

-- The line that is kept of a row.
abbrev draft_of_words : ℕ → List (List ℕ) → DraftLine
draft_of_words line [] = record { line = line; command = Absent; numbers = Some [] }
draft_of_words line (word ∷ words) = record { line = line; command = command_of word; numbers = all_given (map number_of_word words) }

open_if : (a b c d : Bool) → is_command (if a then Pushes else if b then Conjoins else if c then Quantifies else if d then QuantifiesAll
    else Unknown) ≡ true
open_if true b c d = refl
open_if false true c d = refl
open_if false false true d = refl
open_if false false false true = refl
open_if false false false false = refl

open_same : (line : ℕ) (words : List (List ℕ)) → is_open (draft_of_words line words) ≡ has_words words
open_same line [] = refl
open_same line (word ∷ words) = open_if (is_letter 99 word) (is_letter 97 word) (is_letter 113 word) (is_letter 101 word)

one_more_word : (line : ℕ) (words : List (List ℕ)) (word : Word) → has_words words ≡ true → draft_of_words line (words ++ word.bytes ∷ [])
    ≡ draft_with (draft_of_words line words) word
one_more_word line [] word has = absurd (let no : false ≡ true = has in cc)
one_more_word line (first ∷ words) word has =
    ap (λ (n : Option (List ℕ)). record { line = line; command = command_of first; numbers = n })
    (given_push number_of_word words word.bytes)

draft_judged : (formula : Formula) (line : ℕ) (words : List (List ℕ)) (done : List Move) → length formula.clauses ≤ 10000000 → formula.vars
    ≤ 1000000 → Reached formula done
    → draft_taken formula (draft_of_words line words) done
    ≡ (if has_words words then line_taken formula done (moves_of_words words) else Ok done)
draft_judged formula line [] done few small on = refl
draft_judged formula line (word ∷ words) done few small on =
    ap (λ b. if b then line_taken formula done (moves_of_draft (draft_of_words line (word ∷ words))) else Ok done)
    (open_same line (word ∷ words))
    ∙ ap (λ n. line_taken formula done (option_and_then (moves_with (command_of word)) n)) (given_cut words)
    ∙ moves_cut formula word (all_given (map plain_number words)) done few small on

row_if : (formula : Formula) (row : Row) (done : List Move) (rest : List Move → ScheduleText) (has : Bool)
    → behind (if has then line_taken formula done (moves_of_words row.words) else Ok done) row.line rest
    ≡ (if has then behind (line_taken formula done (moves_of_words row.words)) row.line rest else rest done)
row_if formula row done rest true = refl
row_if formula row done rest false = refl

-- a line that is ended
row_judged : (formula : Formula) (row : Row) (done : List Move) (rest : List Move → ScheduleText) → length formula.clauses ≤ 10000000
    → formula.vars ≤ 1000000 → Reached formula done
    → behind (draft_taken formula (draft_of_words row.line row.words) done) row.line rest ≡ row_then formula row done rest
row_judged formula row done rest few small on =
    ap (λ r. behind r row.line rest) (draft_judged formula row.line row.words done few small on)
    ∙ row_if formula row done rest (has_words row.words)

pub line_reached : (formula : Formula) (moves : Option (List Move)) (done later : List Move) → Reached formula done
    → line_taken formula done moves ≡ Ok later → Reached formula later
line_reached formula None done later on e = absurd (err_is_ok e)
line_reached formula (Some moves) done later on e = taken_reached formula moves done later on e

words_reached : (formula : Formula) (words : List (List ℕ)) (done later : List Move) → Reached formula done
    → (if has_words words then line_taken formula done (moves_of_words words) else Ok done) ≡ Ok later → Reached formula later
words_reached formula [] done later on e = subst (Reached formula) (ok_is e) on
words_reached formula (word ∷ words) done later on e = line_reached formula (moves_of_words (word ∷ words)) done later on e

behind_same : (r : Result (List Move) PlanKind) (line : ℕ) (f h : List Move → ScheduleText)
    → ((later : List Move) → r ≡ Ok later → f later ≡ h later) → behind r line f ≡ behind r line h
behind_same (Ok done) line f h same = same done refl
behind_same (Err kind) line f h same = refl

line_is : (line : ℕ) (words : List (List ℕ)) → (draft_of_words line words).line ≡ line
line_is line [] = refl
line_is line (word ∷ words) = refl

-- a line that a token of another ends
ended : (formula : Formula) → length formula.clauses ≤ 10000000 → formula.vars ≤ 1000000
    → (its : Items) (row : Row) (word : Word) (done : List Move) → Reached formula done
    → ((later : List Move) → Reached formula later → drafted formula its (draft_of_word word) later
    ≡ schedule_after formula its (row_of_word word) later)
    → behind (draft_taken formula (draft_of_words row.line row.words) done) row.line
    (λ later. drafted formula its (draft_of_word word) later)
    ≡ row_then formula row done (λ later. schedule_after formula its (row_of_word word) later)
ended formula few small its row word done on again =
    behind_same (draft_taken formula (draft_of_words row.line row.words) done) row.line
    (λ later. drafted formula its (draft_of_word word) later)
    (λ later. schedule_after formula its (row_of_word word) later)
    (λ later e. again later (words_reached formula row.words done later on (sym (draft_judged formula row.line row.words done few small on)
    ∙ e)))
    ∙ row_judged formula row done (λ later. schedule_after formula its (row_of_word word) later) few small on

-- The text says what its rows say.
drafted_from : (formula : Formula) → length formula.clauses ≤ 10000000 → formula.vars ≤ 1000000
    → (its : Items) (row : Row) (done : List Move) → Reached formula done
    → drafted formula its (draft_of_words row.line row.words) done ≡ schedule_after formula its row done
drafted_from formula few small (the_end line) row done on =
    ap (λ (n : ℕ). behind (draft_taken formula (draft_of_words row.line row.words) done) n (λ later. at_end formula later line))
    (line_is row.line row.words)
    ∙ row_judged formula row done (λ later. at_end formula later line) few small on
drafted_from formula few small (too_long line) row done on =
    ap (λ (n : ℕ). if nat_lt n line then behind (draft_taken formula (draft_of_words row.line row.words) done) n
    (λ later. overlong) else overlong) (line_is row.line row.words)
    ∙ ap (λ t. if nat_lt row.line line then t else overlong) (row_judged formula row done (λ later. overlong) few small on)
drafted_from formula few small (next_word word its) row done on =
    let draft : DraftLine = draft_of_words row.line row.words in
    let go_on : ScheduleText = drafted formula its (draft_with draft word) done in
    ap (λ (n : ℕ). if is_open draft && n == word.line then go_on else behind (draft_taken formula draft done) n
    (λ later. drafted formula its (draft_of_word word) later)) (line_is row.line row.words)
    ∙ ap (λ b. if b && row.line == word.line then go_on else behind (draft_taken formula draft done) row.line
    (λ later. drafted formula its (draft_of_word word) later)) (open_same row.line row.words)
    ∙ elim (has_words row.words) as (λ b. has_words row.words ≡ b
    → (if b && row.line == word.line then go_on else behind (draft_taken formula draft done) row.line
    (λ later. drafted formula its (draft_of_word word) later))
    ≡ (if b && row.line == word.line then schedule_after formula its (row_with row word) done else row_then formula row done
    (λ later. schedule_after formula its (row_of_word word) later))) [
      | true ↦ λ has. elim (row.line == word.line) as (λ b. (if b then go_on else behind (draft_taken formula draft done) row.line
          (λ later. drafted formula its (draft_of_word word) later))
          ≡ (if b then schedule_after formula its (row_with row word) done else row_then formula row done
          (λ later. schedule_after formula its (row_of_word word) later))) [
            | true ↦ ap (λ d. drafted formula its d done) (sym (one_more_word row.line row.words word has))
                ∙ drafted_from formula few small its (row_with row word) done on
            | false ↦ ended formula few small its row word done on
                (λ later again. drafted_from formula few small its (row_of_word word) later again)
          ]
      | false ↦ λ none. ended formula few small its row word done on
          (λ later again. drafted_from formula few small its (row_of_word word) later again)
    ] refl

pub drafted_same : (formula : Formula) → length formula.clauses ≤ 10000000 → formula.vars ≤ 1000000 → (its : Items)
    → drafted formula its no_draft [] ≡ schedule_after formula its no_row []
drafted_same formula few small its = drafted_from formula few small its no_row [] (reached_none formula)
