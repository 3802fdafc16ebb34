-- Steps as numbers in a stack. A code is a number of a line with its sign, one more than twice the number, and one more again where it is
-- negative; 0 ends codes. A step is its kind, its own number and its codes: those of its literals, and those of its hints and groups.
use Rattle.std.specs.Prelude.{ℕ, ◌+◌, ◌-◌, ◌*◌, ◌/◌, ◌%◌, ℤ, Bool, true, false, ◌&&◌, List, [], ◌∷◌, ◌++◌, map, reverse, nat_abs}
use Rattle.std.specs.Prelude.{nat_eq, nat_lt}
use Rattle.std.specs.Prelude.{if◌then◌else◌}
use Rattle.std.specs.Int.{is_negative}
use Rattle.std.specs.List.{flat_map}
use Rattle.cnf_base.specs.declared.list.Group.{Group}
use Rattle.cnf_base.specs.declared.step.Step.{Step}
use Rattle.cnf_base.specs.declared.step.Step.TheVariants.{Add, Delete}
use Rattle.cnf_base.specs.ProofText.{is_empty}
use Rattle.lrat_write.specs.LineText.{led_number}

-- a number, negative or not
abbrev pub code_of : ℕ → Bool → ℕ
code_of number minus = 2 * number + (if minus then 2 else 1)

abbrev pub literal_code : ℤ → ℕ
literal_code literal = code_of (nat_abs literal) (is_negative literal)

abbrev pub hint_code : ℕ → ℕ
hint_code id = code_of id false

abbrev pub group_codes : Group → List ℕ
group_codes group = code_of group.id true ∷ map hint_code group.hints

abbrev pub hint_codes : List ℕ → List Group → List ℕ
hint_codes hints groups = map hint_code hints ++ flat_map group_codes groups

-- what a code stands for
abbrev pub number_of : ℕ → ℕ
number_of code = (code - 1) / 2

abbrev pub is_minus : ℕ → Bool
is_minus code = nat_eq (code % 2) 0

-- and how it stands in a line. (0 has no sign.)
abbrev pub code_text : ℕ → List ℕ
code_text code = led_number (is_minus code && nat_lt 0 (number_of code)) (number_of code)

-- the codes in front of the first 0, and what is behind that
abbrev pub codes_ahead : List ℕ → List ℕ
codes_ahead [] = []
codes_ahead (code ∷ codes) = if nat_eq code 0 then [] else code ∷ codes_ahead codes

abbrev pub behind_codes : List ℕ → List ℕ
behind_codes [] = []
behind_codes (code ∷ codes) = if nat_eq code 0 then codes else behind_codes codes

-- the kinds of steps: a deletion, an addition of the empty clause, and of another
abbrev pub addition_kind : List ℤ → ℕ
addition_kind clause = if is_empty clause then 2 else 3

abbrev pub kind_of : Step → ℕ
kind_of (Add id clause hints groups) = addition_kind clause
kind_of (Delete id ids) = 1

abbrev pub own_number : Step → ℕ
own_number (Add id clause hints groups) = id
own_number (Delete id ids) = id

-- the codes of a step in the order of its line, and from the last one back
abbrev pub codes_on : Step → List ℕ
codes_on (Add id clause hints groups) = map literal_code clause ++ 0 ∷ (hint_codes hints groups ++ 0 ∷ [])
codes_on (Delete id ids) = map hint_code ids ++ 0 ∷ []

abbrev pub codes_back : Step → List ℕ
codes_back (Add id clause hints groups) = reverse (hint_codes hints groups) ++ 0 ∷ (reverse (map literal_code clause) ++ 0 ∷ [])
codes_back (Delete id ids) = reverse (map hint_code ids) ++ 0 ∷ []

-- a step on top of a stack, either way
abbrev pub packed_on : Step → List ℕ
packed_on step = kind_of step ∷ own_number step ∷ codes_on step

abbrev pub packed_back : Step → List ℕ
packed_back step = kind_of step ∷ own_number step ∷ codes_back step

-- it is put there, or not
abbrev pub packed_if : Bool → Step → List ℕ
packed_if true step = []
packed_if false step = packed_back step

-- steps, of which the first one is on top
abbrev pub stack_of : List Step → List ℕ
stack_of [] = []
stack_of (step ∷ steps) = packed_on step ++ stack_of steps
