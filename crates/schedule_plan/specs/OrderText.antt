-- The text of an order: plain numbers, together 1, 2, .. up to the number of variables, each once; the first is the top
-- variable. Comment lines begin with `#`. (The format is this project's own.)
use Rattle.std.specs.Prelude.{ℕ, Bool, ◌==◌, ◌||◌, List, [], ◌∷◌, ◌++◌, length, Option, None, Some, nat_lt, if◌then◌else◌}
use Rattle.std.specs.List.{list_any}
use Rattle.cnf_base.specs.Number.{plain_number}
use Rattle.text_scan.specs.Items.{Items, the_end, too_long, next_word, items_of_front, items}
use Rattle.schedule_plan.specs.declared.order_error.OrderKind.{OrderKind}
use Rattle.schedule_plan.specs.declared.order_error.OrderKind.TheVariants.{BadNumber, Range, Repeated, Missing}
pub use Rattle.cnf_base.specs.Limits.{max_bytes}

-- What a text is: an order; a refusal, its kind and line; or a text that is judged by its first bytes and not refused by
-- them.
pub data OrderText : Type 0 where
  order : List ℕ → OrderText
  refusal : OrderKind → ℕ → OrderText
  overlong : OrderText

-- whether a number is one of those
abbrev pub stands_in : ℕ → List ℕ → Bool
stands_in number numbers = list_any (λ other. number == other) numbers

-- What is wrong with the next token, of which this number is read, behind those numbers. The first test that holds
-- decides.
abbrev pub offence_of : Option ℕ → ℕ → List ℕ → Option OrderKind
offence_of None vars before = Some BadNumber
offence_of (Some number) vars before =
    if number == 0 || nat_lt vars number then Some Range
    else if stands_in number before then Some Repeated
    else None

-- the numbers with this one, if one was read
abbrev pub with_read : Option ℕ → List ℕ → List ℕ
with_read None before = before
with_read (Some number) before = before ++ number ∷ []

-- the end of the text, which gave those numbers
abbrev pub text_end : ℕ → List ℕ → ℕ → OrderText
text_end vars numbers line = if nat_lt (length numbers) vars then refusal Missing line else order numbers

-- a token that offends decides; after another the text goes on
abbrev pub judged : Option OrderKind → ℕ → OrderText → OrderText
judged (Some kind) line more = refusal kind line
judged None line more = more

-- what these tokens are behind those numbers
abbrev pub order_of : Items → ℕ → List ℕ → OrderText
order_of (the_end line) vars before = text_end vars before line
order_of (too_long line) vars before = overlong
order_of (next_word word items) vars before =
    judged (offence_of (plain_number word.bytes) vars before) word.line (order_of items vars (with_read (plain_number word.bytes) before))

-- a whole text (35 is `#`)
abbrev pub order_text : ℕ → List ℕ → OrderText
order_text vars bytes = order_of (items 35 max_bytes bytes) vars []

-- What the front of a text decides, whatever comes after it. A token with no byte after it in the front isn't judged yet,
-- and `overlong` says that nothing is decided so far.
abbrev pub order_so_far : ℕ → List ℕ → OrderText
order_so_far vars bytes = order_of (items_of_front 35 bytes) vars []
