-- From the clauses of the parser to the meaning of the words.
use Rattle.std.proofs.Common.{◌≡◌, ℕ, Bool, true, List, [], ◌∷◌, Some, None, refl, sym, ap, ◌∙◌, subst, inl, inr, codes, map}
use Rattle.std.specs.Prelude.{Option, Result, Ok, Err, IfOk, IfErr, MatchResult, ◌⊎◌, ◌++◌, ◌&&◌, ◌||◌, false, not, if◌then◌else◌}
use Rattle.std.specs.List.{list_any}
use Rattle.std.specs.Result.{IsErrAnd}
use Rattle.std.specs.Option.{option_and_then}
use Rattle.clap.specs.Words.{App, FailsBy, HasMatchesOf, IsAmong, Row, kind_of, Text, fault_of, first_of, first_value, found_of, is_simple}
use Rattle.clap.specs.Words.{is_simple_and_free, rows_of, subcommand_of, subcommand_rows_of}
use Rattle.clap.specs.declared.ArgMatches.{ArgMatches}
use Rattle.clap.specs.declared.error.Error.{Error}
use Rattle.clap.specs.declared.error.ErrorKind.{ErrorKind}
use Rattle.clap.specs.declared.error.ErrorKind.TheVariants as kind
use Rattle.command_line.specs.declared.words.Refusal.{Refusal}
use Rattle.command_line.specs.declared.words.Refusal.TheVariants as refusal
use Rattle.command_line.specs.declared.words.Asked.{Asked}
use Rattle.command_line.specs.Reading.{IsRefusal, IsRefusalOf, IsTaken, command_of}
use Rattle.clap.proofs.OnLiterals.{clap_on_literals}
use Rattle.clap.proofs.WalkLemmas.{first_value-rows}
use Rattle.dimacs_reader.specs.declared.mode.Mode.{Mode}
use Rattle.schedule_plan.specs.declared.limits.Limits.{Limits}
use Rattle.command_line.specs.Parser.{the_app}
use Rattle.command_line.specs.Command.{Command, Meaning, Asks, AsksHelp, Misuse, IsOneOf, MayMean, Planned, bench_means, check_means}
use Rattle.command_line.specs.Command.{command}
use Rattle.command_line.specs.Command.{any_order_among, parity_among, rewrite_among, format_given}
use Rattle.command_line.specs.Command.{is_set, limits_among, make_means, means, meanings, method_named, mode_given, names_among}
use Rattle.command_line.specs.Command.{only_command, order_means, part_named, plan_among, plan_given, progress_among, refusal_means}
use Rattle.command_line.specs.Command.{ask_means, both, names_differ, same_name, size_among, to_ask}
use Rattle.command_line.specs.Command.{solve_means, taken_means, to_bench, to_check, to_rewrite, to_make, to_trim, trim_means, to_order}
use Rattle.command_line.specs.Command.{to_solve, two_names}

-- the parser is one whose meaning is known
simple : is_simple the_app ≡ true
unfolding clap_on_literals
simple = refl

simple_and_free : is_simple_and_free the_app ≡ true
unfolding clap_on_literals
simple_and_free = refl

-- ---- what the words mean

meanings_taken : (words : List Text) → fault_of the_app words ≡ [] → meanings words ≡ taken_means (subcommand_of the_app words) ∷ []
unfolding meanings
meanings_taken words none = ap (λ (kinds : List ErrorKind). means kinds (subcommand_of the_app words)) none

later_refusal : (kinds : List ErrorKind) (k : ErrorKind) → IsAmong k kinds → IsOneOf (refusal_means k) (map refusal_means kinds)
later_refusal [] k is = absurd is
later_refusal (y ∷ ys) k (inl same) = inl (ap refusal_means same)
later_refusal (y ∷ ys) k (inr later) = inr (later_refusal ys k later)

one_refusal : (kinds : List ErrorKind) (k : ErrorKind) (taken : Option (Text × List Row)) → IsAmong k kinds
    → IsOneOf (refusal_means k) (means kinds taken)
one_refusal [] k taken is = absurd is
one_refusal (x ∷ xs) k taken is = later_refusal (x ∷ xs) k is

meanings_refused : (words : List Text) (k : ErrorKind) → IsAmong k (fault_of the_app words) → MayMean words (refusal_means k)
unfolding meanings
meanings_refused words k is = one_refusal (fault_of the_app words) k (subcommand_of the_app words) is

-- the parser took the words, and its values mean this
pub taken : {app : App} (words : List Text) (m : ArgMatches) (meaning : Meaning) → app ≡ the_app
    → (is_simple_and_free app ≡ true → fault_of app words ≡ []) → HasMatchesOf app words m
    → taken_means (subcommand_rows_of m) ≡ meaning → meanings words ≡ meaning ∷ []
taken {app = app} words m meaning is kinds matches gives =
    let none : fault_of the_app words ≡ [] = subst (λ (a : App). fault_of a words
    ≡ []) is (kinds (ap is_simple_and_free is ∙ simple_and_free)) in
    let same : subcommand_rows_of m ≡ subcommand_of the_app words = (matches (ap is_simple is ∙ simple)).1
    ∙ ap (λ (a : App). subcommand_of a words) is in
    meanings_taken words none ∙ ap (λ (x : Meaning). x ∷ []) (ap taken_means (sym same) ∙ gives)

pub taken_command : (words : List Text) (asked : Command) → meanings words ≡ Asks asked ∷ [] → command words ≡ Some asked
taken_command words asked e = ap only_command e

pub taken_misuse : (words : List Text) → meanings words ≡ Misuse ∷ [] → MayMean words Misuse
taken_misuse words e = subst (λ (l : List Meaning). IsOneOf Misuse l) (sym e) (inl refl)

-- the parser refused the words, not for want of memory
pub refused : {app : App} (words : List Text) (k memory : ErrorKind) → app ≡ the_app
    → (is_simple_and_free app ≡ true → (k ≡ memory) ⊎ IsAmong k (fault_of app words)) → (k ≡ memory → ⊥) → MayMean words (refusal_means k)
refused {app = app} words k memory is kinds other = elim (kinds (ap is_simple_and_free is ∙ simple_and_free)) [
  | inl e ↦ absurd (other e)
  | inr among ↦ meanings_refused words k (subst (λ (a : App). IsAmong k (fault_of a words)) is among)
]

-- ---- the getters

-- the value that a getter reads is that of the row
pub of_row : (values : ArgMatches) (name : Text) (value : Option Text) → value ≡ first_value (found_of values) name
    → first_of name (rows_of (found_of values)) ≡ value
of_row values name value is = sym (is ∙ first_value-rows (found_of values) name)

-- a function of three values that are equal in turn
pub ap₃ : {A B C D : Type 0} (f : A → B → C → D) {a d : A} {b e : B} {c g : C} → a ≡ d → b ≡ e → c ≡ g → f a b c ≡ f d e g
ap₃ f p q r = λ i. f (p i) (q i) (r i)

pub solve_values : (values : ArgMatches) (names : Option (Text × Text)) (mode : Mode) (lax order : Option Text) (plan : Option Planned)
    (limits : Option Limits) (progress parity : Bool)
    → names_among (rows_of (found_of values)) ≡ names → mode ≡ mode_given lax → lax ≡ first_value (found_of values) (codes "lax") → order
    ≡ first_value (found_of values) (codes "order") → plan ≡ plan_among (rows_of (found_of values)) → limits
    ≡ limits_among (rows_of (found_of values)) → progress ≡ progress_among (rows_of (found_of values))
    → parity ≡ parity_among (rows_of (found_of values))
    → solve_means (rows_of (found_of values)) ≡ to_solve names mode order plan limits progress parity
solve_values values names mode lax order plan limits progress parity names_are mode_is lax_is order_is plan_is limits_are progress_is
    parity_is =
    let read : solve_means (rows_of (found_of values)) ≡ to_solve names (mode_given lax) order plan limits progress parity = λ i.
    to_solve (names_are i) (mode_given (of_row values (codes "lax") lax lax_is i)) (of_row values (codes "order") order order_is i)
    (sym plan_is i) (sym limits_are i) (sym progress_is i) (sym parity_is i) in
    read ∙ ap (λ (m : Mode). to_solve names m order plan limits progress parity) (sym mode_is)

pub names_values : (values : ArgMatches) (file proof order schedule buckets : Option Text)
    → file ≡ first_value (found_of values) (codes "FILE") → proof ≡ first_value (found_of values) (codes "proof") → order
    ≡ first_value (found_of values) (codes "order")
    → schedule ≡ first_value (found_of values) (codes "schedule") → buckets ≡ first_value (found_of values) (codes "buckets")
    → names_among (rows_of (found_of values)) ≡ two_names file proof (order ∷ schedule ∷ buckets ∷ [])
names_values values file proof order schedule buckets file_is proof_is order_is schedule_is buckets_is = λ i.
    two_names (of_row values (codes "FILE") file file_is i) (of_row values (codes "proof") proof proof_is i)
    (of_row values (codes "order") order order_is i ∷ of_row values (codes "schedule") schedule schedule_is i
    ∷ of_row values (codes "buckets") buckets buckets_is i
    ∷ [])

pub plan_values : (values : ArgMatches) (name schedule buckets search_text : Option Text)
    → name ≡ first_value (found_of values) (codes "plan") → schedule ≡ first_value (found_of values) (codes "schedule") → buckets
    ≡ first_value (found_of values) (codes "buckets") → search_text ≡ first_value (found_of values) (codes "search")
    → plan_among (rows_of (found_of values)) ≡ plan_given name schedule buckets (is_set search_text)
plan_values values name schedule buckets search_text name_is schedule_is buckets_is search_is = λ i.
    plan_given (of_row values (codes "plan") name name_is i) (of_row values (codes "schedule") schedule schedule_is i)
    (of_row values (codes "buckets") buckets buckets_is i) (is_set (of_row values (codes "search") search_text search_is i))

-- files that aren't named change nothing
two_alone : (file other : Option Text) → two_names file other [] ≡ two_names file other (None ∷ None ∷ None ∷ [])
two_alone None None = refl
two_alone None (Some other) = refl
two_alone (Some file) None = refl
two_alone (Some file) (Some other) = refl

pub check_values : (values : ArgMatches) (file proof format lax : Option Text) (any_order progress : Bool)
    → file ≡ first_value (found_of values) (codes "FILE") → proof ≡ first_value (found_of values) (codes "PROOF") → format
    ≡ first_value (found_of values) (codes "format") → lax
    ≡ first_value (found_of values) (codes "lax") → any_order ≡ any_order_among (rows_of (found_of values))
    → progress ≡ progress_among (rows_of (found_of values))
    → check_means (rows_of (found_of values))
    ≡ to_check (two_names file proof (None ∷ None ∷ None ∷ [])) (format_given any_order format) (mode_given lax) progress
check_values values file proof format lax any_order progress file_is proof_is format_is lax_is any_order_is progress_is =
    let read : check_means (rows_of (found_of values))
    ≡ to_check (two_names file proof []) (format_given any_order format) (mode_given lax) progress = λ i.
    to_check (two_names (of_row values (codes "FILE") file file_is i) (of_row values (codes "PROOF") proof proof_is i) [])
    (format_given (sym any_order_is i) (of_row values (codes "format") format format_is i))
    (mode_given (of_row values (codes "lax") lax lax_is i)) (sym progress_is i) in
    read
    ∙ ap (λ (names : Option (Text × Text)). to_check names (format_given any_order format) (mode_given lax) progress) (two_alone file proof)

-- a fifth file that isn't named changes nothing
four_alone : (file other order cubes : Option Text) → two_names file other (order ∷ cubes ∷ []) ≡ two_names file other (order ∷ cubes
    ∷ None ∷ [])
four_alone file other order cubes =
    ap (λ (b : Bool). if b then both file other else None) (differ (file ∷ other ∷ order ∷ cubes ∷ [])) where
      same_none : (file : Option Text) → same_name file None ≡ false
      same_none None = refl
      same_none (Some text) = refl

      among_none : (file : Option Text) (others : List (Option Text)) → list_any (same_name file) (others ++ None ∷ [])
          ≡ list_any (same_name file) others
      among_none file [] = ap (λ (b : Bool). b || false) (same_none file)
      among_none file (other ∷ others) = ap (λ (b : Bool). same_name file other || b) (among_none file others)

      differ : (files : List (Option Text)) → names_differ files ≡ names_differ (files ++ None ∷ [])
      differ [] = refl
      differ (file ∷ files) = λ i. not (sym (among_none file files) i) && differ files i

pub rewrite_values : (values : ArgMatches) (file proof out further lax : Option Text) (progress : Bool)
    → file ≡ first_value (found_of values) (codes "FILE") → proof ≡ first_value (found_of values) (codes "PROOF") → out
    ≡ first_value (found_of values) (codes "out")
    → lax ≡ first_value (found_of values) (codes "lax") → progress ≡ progress_among (rows_of (found_of values))
    → rewrite_among further (rows_of (found_of values))
    ≡ to_rewrite (two_names file proof (out ∷ further ∷ None ∷ [])) out (mode_given lax) progress
rewrite_values values file proof out further lax progress file_is proof_is out_is lax_is progress_is =
    let read : rewrite_among further (rows_of (found_of values))
    ≡ to_rewrite (two_names file proof (out ∷ further ∷ [])) out (mode_given lax) progress = λ i.
    to_rewrite (two_names (of_row values (codes "FILE") file file_is i) (of_row values (codes "PROOF") proof proof_is i)
    (of_row values (codes "out") out out_is i ∷ further ∷ []))
    (of_row values (codes "out") out out_is i)
    (mode_given (of_row values (codes "lax") lax lax_is i)) (sym progress_is i) in
    read ∙ ap (λ (names : Option (Text × Text)). to_rewrite names out (mode_given lax) progress) (four_alone file proof out further)

pub trim_values : (values : ArgMatches) (core : Option Text) → core ≡ first_value (found_of values) (codes "core")
    → trim_means (rows_of (found_of values)) ≡ to_trim (rewrite_among core (rows_of (found_of values))) core
trim_values values core core_is = λ i.
    to_trim (rewrite_among (of_row values (codes "core") core core_is i) (rows_of (found_of values)))
    (of_row values (codes "core") core core_is i)

pub order_values : (values : ArgMatches) (file out method lax : Option Text) (progress : Bool)
    → file ≡ first_value (found_of values) (codes "FILE") → out ≡ first_value (found_of values) (codes "out") → method
    ≡ first_value (found_of values) (codes "by")
    → lax ≡ first_value (found_of values) (codes "lax") → progress ≡ progress_among (rows_of (found_of values))
    → order_means (rows_of (found_of values)) ≡ to_order (two_names file out (None ∷ None ∷ None ∷ []))
    (option_and_then method_named method) (mode_given lax) progress
order_values values file out method lax progress file_is out_is method_is lax_is progress_is =
    let found = option_and_then method_named method in
    let read : order_means (rows_of (found_of values)) ≡ to_order (two_names file out []) found (mode_given lax) progress = λ i.
    to_order (two_names (of_row values (codes "FILE") file file_is i) (of_row values (codes "out") out out_is i) [])
    (option_and_then method_named (of_row values (codes "by") method method_is i))
    (mode_given (of_row values (codes "lax") lax lax_is i)) (sym progress_is i) in
    read ∙ ap (λ (names : Option (Text × Text)). to_order names found (mode_given lax) progress) (two_alone file out)

pub ask_values : (values : ArgMatches) (file proof order cubes lax : Option Text) (limits : Option Limits) (progress : Bool)
    → file ≡ first_value (found_of values) (codes "FILE") → proof ≡ first_value (found_of values) (codes "proof") → order
    ≡ first_value (found_of values) (codes "order") → cubes ≡ first_value (found_of values) (codes "cubes")
    → lax ≡ first_value (found_of values) (codes "lax") → limits ≡ limits_among (rows_of (found_of values))
    → progress ≡ progress_among (rows_of (found_of values))
    → ask_means (rows_of (found_of values))
    ≡ to_ask (two_names file proof (order ∷ cubes ∷ None ∷ [])) cubes (mode_given lax) order limits progress
ask_values values file proof order cubes lax limits progress file_is proof_is order_is cubes_is lax_is limits_are progress_is =
    let read : ask_means (rows_of (found_of values))
    ≡ to_ask (two_names file proof (order ∷ cubes ∷ [])) cubes (mode_given lax) order limits progress = λ i.
    to_ask (two_names (of_row values (codes "FILE") file file_is i) (of_row values (codes "proof") proof proof_is i)
    (of_row values (codes "order") order order_is i ∷ of_row values (codes "cubes") cubes cubes_is i ∷ []))
    (of_row values (codes "cubes") cubes cubes_is i) (mode_given (of_row values (codes "lax") lax lax_is i))
    (of_row values (codes "order") order order_is i) (sym limits_are i) (sym progress_is i) in
    read ∙ ap (λ (names : Option (Text × Text)). to_ask names cubes (mode_given lax) order limits progress)
    (four_alone file proof order cubes)

pub bench_values : (values : ArgMatches) (size : Option ℕ) (proof : Option Text) (limits : Option Limits) (progress : Bool)
    → size ≡ size_among (rows_of (found_of values)) → proof ≡ first_value (found_of values) (codes "proof") → limits
    ≡ limits_among (rows_of (found_of values)) → progress ≡ progress_among (rows_of (found_of values))
    → bench_means (rows_of (found_of values)) ≡ to_bench size proof limits progress
bench_values values size proof limits progress size_is proof_is limits_are progress_is = λ i.
    to_bench (sym size_is i) (of_row values (codes "proof") proof proof_is i) (sym limits_are i) (sym progress_is i)

pub make_values : (values : ArgMatches) (size : Option ℕ) (part file : Option Text)
    → size ≡ size_among (rows_of (found_of values)) → part ≡ first_value (found_of values) (codes "part") → file
    ≡ first_value (found_of values) (codes "out")
    → make_means (rows_of (found_of values)) ≡ to_make size (option_and_then part_named part) file
make_values values size part file size_is part_is file_is =
    ap₃ to_make (sym size_is) (ap (option_and_then part_named) (of_row values (codes "part") part part_is))
    (of_row values (codes "out") file file_is)

-- what a refusal of the parser comes to is what the words may mean
pub refusal_due : (words : List Text) (k : ErrorKind) (r : Refusal) → ((k ≡ kind.OutOfMemory → ⊥) → MayMean words (refusal_means k))
    → IsRefusalOf k r → IsRefusal words r
refusal_due words k (refusal.Help text) may is = subst (λ (m : Meaning). MayMean words m) is
    (may (λ e. apart (sym (ap refusal_means e) ∙ is))) where
      apart : Misuse ≡ AsksHelp → ⊥
      apart e = cc
refusal_due words k refusal.Usage may is = subst (λ (m : Meaning). MayMean words m) is.1 (may is.0)
refusal_due words k refusal.OutOfMemory may is = tt

-- and so is what the parser's answer comes to
pub answered : {app : App} (words : List Text) (parsed : Result ArgMatches Error) (answer : Result Asked Refusal) → app ≡ the_app
    → (is_simple_and_free app ≡ true → FailsBy (fault_of app words) parsed) → IfOk parsed (HasMatchesOf app words)
    → IfOk parsed (λ m. IsTaken (subcommand_rows_of m) answer)
    → IfErr parsed (λ e. IsErrAnd answer (IsRefusalOf (kind_of e)))
    → MatchResult answer (λ asked. command words ≡ Some (command_of asked)) (IsRefusal words)
answered words (Ok m) (Ok asked) is kinds matches means _ =
    taken_command words _ (taken words m (Asks (command_of asked)) is kinds matches means)
answered words (Ok m) (Err (refusal.Help text)) is kinds matches means _ = absurd means
answered words (Ok m) (Err refusal.Usage) is kinds matches means _ = taken_misuse words (taken words m Misuse is kinds matches means)
answered words (Ok m) (Err refusal.OutOfMemory) is kinds matches means _ = absurd means
answered words (Err e) (Ok asked) is kinds matches _ refusal = absurd refusal
answered words (Err e) (Err r) is kinds matches _ refusal =
    refusal_due words (kind_of e) r (λ other. refused words (kind_of e) kind.OutOfMemory is kinds other) refusal
