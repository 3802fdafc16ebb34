-- Trimming leaves out lines, words and bytes of words alone: the trimmed form is no longer than the text, but for a last line end.
use Rattle.std.proofs.Common.{◌≡◌, ℕ, zero, suc, ◌+◌, ◌<◌, ◌≤◌, Bool, true, false, cond, ℤ, pos, neg_ℤ, List, [], ◌∷◌, ◌++◌, length, take, map}
use Rattle.std.proofs.Common.{Option, None, Some, decimal, refl, sym, ap, ◌∙◌, subst, arith, length-append, if◌then◌else◌}
use Rattle.std.proofs.Common.{inl, inr}
use Rattle.std.specs.Fmt.{signed_decimal}
use Rattle.std.specs.FinMap as finmap
use Rattle.std.specs.List.{filter, flat_map}
use Rattle.std.proofs.lemmas.Bool.{cases_lt}
use Rattle.std.proofs.lemmas.List.{map-append}
use Rattle.cnf_base.specs.declared.list.Group.{Group}
use Rattle.cnf_base.specs.declared.step.Step.{Step}
use Rattle.cnf_base.specs.declared.step.Step.TheVariants.{Add, Delete}
use Rattle.cnf_base.specs.Limits.{max_bytes}
use Rattle.cnf_base.specs.Text.{Row, end_line, rows}
use Rattle.cnf_base.specs.ProofText.{Line, are_whole_lines, group_numbers, line_of_row, line_of_step, proof_lines, step_of, step_words}
use Rattle.lrat_text.specs.Steps.{AreFront, Steps, lines_then, no_more, overlong, no_step, next_step, step_then, steps}
use Rattle.lrat_rules.specs.Chain.{FalseSet, Outcome, Open, Closed, Bad, chain, literals_of}
use Rattle.lrat_rules.specs.Derivation.{text_of}
use Rattle.lrat_rules.specs.Run.{after_step, step_adds_empty}
use Rattle.lrat_rules.specs.State.{Live, State, clause_at, start}
use Rattle.lrat_checker.specs.Cuts.{cut_group, cut_groups, cut_of, group_use, used}
use Rattle.proof_trim.specs.Trimmed.{cut_step, cut_steps, cut_up_to_end, deletion_of, id_if_live, is_kept, is_there, kept, live_ids}
use Rattle.proof_trim.specs.Trimmed.{needed, none_if, trim, trimmed, trimmed_of, trimmed_step, trimmed_steps}
use Rattle.proof_trim.proofs.WordLengths.{bytes_in, bytes_in-append, length-line}
use Rattle.proof_trim.proofs.LineLengths.{step_shorter}
use Rattle.proof_trim.proofs.TextLengths.{bytes_in_rows, bytes_in-rows, bytes_in-whole}

-- the bytes of the lines of steps
abbrev bytes_of : List Step → ℕ
bytes_of [] = 0
bytes_of (step ∷ steps) = bytes_in (step_words step) + bytes_of steps

length-text : (steps : List Step) → length (text_of steps) ≡ bytes_of steps
length-text [] = refl
length-text (step ∷ steps) = length-append (line_of_step step) (text_of steps) ∙ (λ i. length-line step i + length-text steps i)

bytes_of-append : (steps more : List Step) → bytes_of (steps ++ more) ≡ bytes_of steps + bytes_of more
bytes_of-append [] more = omega arith
bytes_of-append (step ∷ steps) more = omega (arith, bytes_of-append steps more)

-- numbers that are left out
fewer : (test : ℕ → Bool) (ids : List ℕ) → bytes_in (map decimal (filter test ids)) ≤ bytes_in (map decimal ids)
fewer test [] = omega arith
fewer test (id ∷ ids) =
    elim (test id)
    as (λ b. bytes_in (map decimal (cond b (id ∷ filter test ids) (filter test ids))) ≤ bytes_in (map decimal (id ∷ ids))) [
      | true ↦ omega (arith, fewer test ids)
      | false ↦ omega (arith, fewer test ids)
    ]

fewer_live : (live : Live) (ids : List ℕ) → bytes_in (map decimal (live_ids live ids)) ≤ bytes_in (map decimal ids)
fewer_live live [] = omega arith
fewer_live live (id ∷ ids) =
    elim (clause_at live id)
    as (λ o. bytes_in (map decimal (id_if_live id o (live_ids (finmap.remove live id) ids))) ≤ bytes_in (map decimal (id ∷ ids))) [
      | None ↦ omega (arith, fewer_live (finmap.remove live id) ids)
      | Some clause ↦ omega (arith, fewer_live (finmap.remove live id) ids)
    ]

-- the numbers of a deletion
deletion_bytes : (id : ℕ) (ids : List ℕ) → bytes_in (step_words (Delete id ids)) ≡ (length (decimal id) + 5) + bytes_in (map decimal ids)
deletion_bytes id ids = omega (arith, bytes_in-append (map decimal ids) ((48 ∷ []) ∷ []))

shorter_deletion : (id : ℕ) (few ids : List ℕ) → bytes_in (map decimal few) ≤ bytes_in (map decimal ids)
    → bytes_in (step_words (Delete id few)) ≤ bytes_in (step_words (Delete id ids))
shorter_deletion id few ids less = omega (arith, less, deletion_bytes id few, deletion_bytes id ids)

-- the numbers of hints and of groups
abbrev hint_bytes : List ℕ → ℕ
hint_bytes hints = bytes_in (map signed_decimal (map pos hints))

abbrev group_bytes : List Group → ℕ
group_bytes groups = bytes_in (map signed_decimal (flat_map group_numbers groups))

fewer_hints : (count : ℕ) (hints : List ℕ) → hint_bytes (take count hints) ≤ hint_bytes hints
fewer_hints zero hints = omega arith
fewer_hints (suc count) [] = omega arith
fewer_hints (suc count) (hint ∷ hints) = omega (arith, fewer_hints count hints)

one_group : (group : Group) (groups : List Group) → group_bytes (group ∷ groups)
    ≡ (length (signed_decimal (neg_ℤ (pos group.id))) + 1) + (hint_bytes group.hints + group_bytes groups)
one_group group groups =
    let parts : map signed_decimal (group_numbers group ++ flat_map group_numbers groups) ≡ map signed_decimal (group_numbers group)
    ++ map signed_decimal (flat_map group_numbers groups) = map-append signed_decimal (group_numbers group) (flat_map group_numbers groups) in
    let both : bytes_in (map signed_decimal (group_numbers group) ++ map signed_decimal (flat_map group_numbers groups))
    ≡ bytes_in (map signed_decimal (group_numbers group)) + group_bytes groups =
    bytes_in-append (map signed_decimal (group_numbers group)) (map signed_decimal (flat_map group_numbers groups)) in
    let all : bytes_in (map signed_decimal (group_numbers group)) + group_bytes groups
    ≡ (length (signed_decimal (neg_ℤ (pos group.id))) + 1) + (hint_bytes group.hints + group_bytes groups) = omega arith in
    ap bytes_in parts ∙ both ∙ all

fewer_in_groups : (live : Live) (n : FalseSet) (pivot : ℤ) (groups : List Group)
    → group_bytes (map (cut_group live n pivot) groups) ≤ group_bytes groups
fewer_in_groups live n pivot [] = omega arith
fewer_in_groups live n pivot (group ∷ groups) =
    let few = cut_group live n pivot group in
    let hints : hint_bytes few.hints ≤ hint_bytes group.hints = fewer_hints (group_use live n pivot group) group.hints in
    let rest : group_bytes (map (cut_group live n pivot) groups) ≤ group_bytes groups = fewer_in_groups live n pivot groups in
    omega (arith, hints, rest, one_group few (map (cut_group live n pivot) groups), one_group group groups)

fewer_groups : (live : Live) (clause : List ℤ) (groups : List Group) (o : Outcome)
    → group_bytes (cut_groups live clause groups o) ≤ group_bytes groups
fewer_groups live clause groups (Bad reason) = omega arith
fewer_groups live clause groups Closed = omega arith
fewer_groups live [] groups (Open n) = omega arith
fewer_groups live (pivot ∷ clause) groups (Open n) = fewer_in_groups live n pivot groups

addition_bytes : (id : ℕ) (clause : List ℤ) (hints : List ℕ) (groups : List Group) → bytes_in (step_words (Add id clause hints groups))
    ≡ (length (decimal id) + 5) + (bytes_in (map signed_decimal clause) + (hint_bytes hints + group_bytes groups))
addition_bytes id clause hints groups =
    let numbers : List (List ℕ) = map signed_decimal (map pos hints ++ flat_map group_numbers groups) in
    let first : bytes_in ((decimal id ∷ map signed_decimal clause) ++ ((48 ∷ []) ∷ numbers))
    ≡ bytes_in (decimal id ∷ map signed_decimal clause) + bytes_in ((48 ∷ []) ∷ numbers) =
    bytes_in-append (decimal id ∷ map signed_decimal clause) ((48 ∷ []) ∷ numbers) in
    let second : bytes_in (step_words (Add id clause hints groups))
    ≡ bytes_in ((decimal id ∷ map signed_decimal clause) ++ ((48 ∷ []) ∷ numbers)) + bytes_in ((48 ∷ []) ∷ []) =
    bytes_in-append ((decimal id ∷ map signed_decimal clause) ++ ((48 ∷ []) ∷ numbers)) ((48 ∷ []) ∷ []) in
    let third : bytes_in numbers ≡ hint_bytes hints + group_bytes groups =
    ap bytes_in (map-append signed_decimal (map pos hints) (flat_map group_numbers groups))
    ∙ bytes_in-append (map signed_decimal (map pos hints)) (map signed_decimal (flat_map group_numbers groups)) in
    omega (arith, first, second, third)

-- a step that is cut
cut_shorter : (state : State) (step : Step) → bytes_in (step_words (cut_step state step)) ≤ bytes_in (step_words step)
cut_shorter state (Add id clause hints groups) =
    let cut = cut_of state.live clause hints groups in
    let few : hint_bytes cut.pos ≤ hint_bytes hints = fewer_hints (used state.live (literals_of clause) hints) hints in
    let less : group_bytes cut.groups ≤ group_bytes groups =
    fewer_groups state.live clause groups (chain state.live (literals_of clause) hints) in
    omega (arith, few, less, addition_bytes id clause cut.pos cut.groups, addition_bytes id clause hints groups)
cut_shorter state (Delete id ids) = shorter_deletion id (live_ids state.live ids) ids (fewer_live state.live ids)

-- steps as a reader gives them
abbrev bytes_ahead : Steps → ℕ
bytes_ahead (no_more line) = 0
bytes_ahead overlong = 0
bytes_ahead (no_step line) = 0
bytes_ahead (next_step step line steps) = bytes_in (step_words step) + bytes_ahead steps

none_longer : (b : Bool) (steps : List Step) → bytes_of (none_if b steps) ≤ bytes_of steps
none_longer true steps = omega arith
none_longer false steps = omega arith

all_cut : (state : State) (steps : Steps) → bytes_of (cut_steps state steps) ≤ bytes_ahead steps
all_cut state (no_more line) = omega arith
all_cut state overlong = omega arith
all_cut state (no_step line) = omega arith
all_cut state (next_step step line steps) =
    omega (
      arith,
      cut_shorter state step,
      none_longer (step_adds_empty step) (cut_steps (after_step state step) steps),
      all_cut (after_step state step) steps,
    )

-- those that are trimmed
trimmed_shorter : (count : ℕ) (needs : ℕ → Bool) (step : Step) → bytes_of (trimmed_step count needs step) ≤ bytes_in (step_words step)
trimmed_shorter count needs (Add id clause hints groups) = omega arith
trimmed_shorter count needs (Delete id ids) =
    elim (filter (is_there count needs) ids)
    as (λ l. bytes_in (map decimal l) ≤ bytes_in (map decimal ids) → bytes_of (deletion_of id l) ≤ bytes_in (step_words (Delete id ids))) [
      | [] ↦ λ less. omega arith
      | first ∷ more ↦ λ less. omega (arith, shorter_deletion id (first ∷ more) ids less)
    ] (fewer (is_there count needs) ids)

all_trimmed : (count : ℕ) (needs : ℕ → Bool) (steps : List Step) → bytes_of (trimmed_steps count needs steps) ≤ bytes_of steps
all_trimmed count needs [] = omega arith
all_trimmed count needs (step ∷ steps) =
    omega (
      arith,
      trimmed_shorter count needs step,
      all_trimmed count needs steps,
      bytes_of-append (trimmed_step count needs step) (trimmed_steps count needs steps),
    )

all_kept : (steps : List Step) → bytes_of (kept steps) ≤ bytes_of steps
all_kept [] = omega arith
all_kept (step ∷ steps) =
    elim (is_kept (needed steps) step) as (λ b. bytes_of (if b then step ∷ kept steps else kept steps) ≤ bytes_of (step ∷ steps)) [
      | true ↦ omega (arith, all_kept steps)
      | false ↦ omega (arith, all_kept steps)
    ]

-- the steps of a text's lines
front_bytes : (rows : List Row) (behind : Steps) → bytes_ahead behind ≡ 0
    → bytes_ahead (lines_then (map line_of_row rows) behind) ≤ bytes_in_rows rows
front_bytes [] behind none = omega (arith, none)
front_bytes (row ∷ rows) behind none =
    elim (step_of row.words) as (λ o. step_of row.words ≡ o
    → bytes_ahead (step_then o row.line (lines_then (map line_of_row rows) behind)) ≤ bytes_in_rows (row ∷ rows)) [
      | None ↦ λ _. omega arith
      | Some step ↦ λ is. omega (arith, step_shorter row.words step is, front_bytes rows behind none)
    ] refl

-- behind a front, the lines of it alone
cut_off : (front rest : List Line) → bytes_ahead (lines_then front overlong) ≤ bytes_ahead (lines_then (front ++ rest) overlong)
cut_off [] rest = omega arith
cut_off (line ∷ front) rest =
    elim line.step as (λ o. bytes_ahead (step_then o line.line (lines_then front overlong))
    ≤ bytes_ahead (step_then o line.line (lines_then (front ++ rest) overlong))) [
      | None ↦ omega arith
      | Some step ↦ omega (arith, cut_off front rest)
    ]

module _ (whole : (limit : ℕ) (bytes : List ℕ) → length bytes ≤ limit → steps limit bytes
    ≡ lines_then (proof_lines bytes) (no_more (end_line bytes)))
    (long : (limit : ℕ) (bytes : List ℕ) → limit < length bytes → AreFront (steps limit bytes) (proof_lines bytes)) where
  text_bytes : (bytes : List ℕ) → bytes_ahead (steps max_bytes bytes) ≤ bytes_in_rows (rows 99 bytes)
  text_bytes bytes =
      elim (cases_lt max_bytes (length bytes)) [
        | inr within ↦ subst (λ (s : Steps). bytes_ahead s ≤ bytes_in_rows (rows 99 bytes)) (sym (whole max_bytes bytes within))
            (front_bytes (rows 99 bytes) (no_more (end_line bytes)) refl)
        | inl beyond ↦
            let front = long max_bytes bytes beyond in
            let first : bytes_ahead (lines_then front.front overlong) ≤ bytes_ahead (lines_then (front.front ++ front.rest) overlong) =
            cut_off front.front front.rest in
            let same : bytes_ahead (lines_then (front.front ++ front.rest) overlong) ≡ bytes_ahead (lines_then (proof_lines bytes) overlong) =
            ap (λ (l : List Line). bytes_ahead (lines_then l overlong)) (sym front.parts) in
            subst (λ (s : Steps). bytes_ahead s ≤ bytes_in_rows (rows 99 bytes)) (sym front.steps)
            (omega (arith, first, same, front_bytes (rows 99 bytes) overlong refl))
      ]

  trim_bytes : (clauses : List (List ℤ)) (bytes : List ℕ) → length (trim clauses bytes) ≤ bytes_in_rows (rows 99 bytes)
  trim_bytes clauses bytes =
      let all : List Step = cut_up_to_end clauses bytes in
      omega (
        arith,
        length-text (trimmed clauses bytes),
        all_trimmed (length clauses) (needed all) (kept all),
        all_kept all,
        all_cut (start clauses) (steps max_bytes bytes),
        text_bytes bytes,
      )

  pub shorter : (clauses : List (List ℤ)) (bytes : List ℕ) → length (trim clauses bytes) ≤ length bytes + 1
  shorter clauses bytes = omega (arith, trim_bytes clauses bytes, bytes_in-rows bytes)

  pub no_longer : (clauses : List (List ℤ)) (bytes : List ℕ) → are_whole_lines bytes ≡ true
      → length (trim clauses bytes) ≤ length bytes
  no_longer clauses bytes ended = omega (arith, trim_bytes clauses bytes, bytes_in-whole bytes ended)
