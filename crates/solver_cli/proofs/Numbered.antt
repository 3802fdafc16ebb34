-- The text of answers to cubes from one of them on.
use Rattle.std.proofs.Common.{◌≡◌, ℕ, ◌+◌, ◌<◌, ◌≤◌, [], ◌∷◌, ◌++◌, List, drop, length, get_or, sym, ◌∙◌, ap, add-one, drop-cons}
use Rattle.std.proofs.lemmas.List.{drop_all}
use Rattle.answer_text.specs.Status.{cube_line}
use Rattle.cube_queries.specs.declared.answer.Answer.{Answer}
use Rattle.solver_cli.specs.Replies.{answer_lines, answers_from}

rest_of : (i : ℕ) (answers : List Answer) (d : Answer) → i < length answers
    → drop i answers ≡ get_or answers i d ∷ drop (i + 1) answers
rest_of i answers d below =
    drop-cons answers i d below ∙ ap (λ (n : ℕ). get_or answers i d ∷ drop n answers) (sym (add-one i))

-- the text from the answer of this index on, which is this one
pub next_answer : (i : ℕ) (answers : List Answer) (d answer : Answer) → i < length answers → answer ≡ get_or answers i d
    → answers_from (i + 1) (drop i answers)
    ≡ (cube_line (i + 1) ++ answer_lines answer) ++ answers_from (i + 1 + 1) (drop (i + 1) answers)
next_answer i answers d answer below is =
    ap (answers_from (i + 1)) (rest_of i answers d below)
    ∙ ap (λ (a : Answer). (cube_line (i + 1) ++ answer_lines a) ++ answers_from (i + 1 + 1) (drop (i + 1) answers)) (sym is)

-- none behind the last one
pub no_answer : (i : ℕ) (answers : List Answer) → length answers ≤ i → answers_from (i + 1) (drop i answers) ≡ []
no_answer i answers past = ap (answers_from (i + 1)) (drop_all i answers past)
