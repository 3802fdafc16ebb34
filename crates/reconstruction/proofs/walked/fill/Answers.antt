-- What is left to show of `fill`.
use Rattle.std.proofs.Common.{◌≡◌, ◌∙◌, ◌-◌, ◌<◌, ◌≤◌, ℕ, List, length, subst, sym, ap, take}
use Rattle.std.specs.Prelude.{slice_index_or, if◌then◌else◌}
use Rattle.std.proofs.lemmas.List.{length-set}
use Rattle.std.proofs.lemmas.List.Elements.{Contains-get_or}
use Rattle.cnf_base.specs.Truth.{assignment_of}
use Rattle.reconstruction.specs.Entries.{no_entry, variables_of}
use Rattle.reconstruction.specs.SetsBack.{is_among}
use Rattle.reconstruction.proofs.Ranked.{filled_more, take_whole, variables_more}
use Rattle.reconstruction.proofs.walked.fill.Goals as goal

pub set-requires-clause-some : goal.set-requires-clause-some
set-requires-clause-some c = (c.requires _ (Contains-get_or c.args.entries.now c.entries.entry-index no_entry c.entries-test.true)).0

pub set-requires-clause-within : goal.set-requires-clause-within
set-requires-clause-within c =
    subst (λ n. (slice_index_or c.args.entries.now c.entries.entry-index no_entry).variable ≤ n) (sym c.entries.invariant.one_each)
    (c.requires _ (Contains-get_or c.args.entries.now c.entries.entry-index no_entry c.entries-test.true)).1

pub entries-preserved : goal.entries-preserved
entries-preserved c =
    let entries = c.args.entries.now in
    let place = c.entries.entry-index in
    let it = slice_index_or entries place no_entry in
    let there = c.requires it (Contains-get_or entries place no_entry c.entries-test.true) in
    let before = c.args.values.now in
    let new = c.set.new.self in
    record {
      one_each = ap length c.set.ensures ∙ length-set c.entries.values (it.variable - 1) c.args.value ∙ c.entries.invariant.one_each;
      filled = subst (λ (xs : List ℕ). (v : ℕ) → 0 < v
          → assignment_of new v ≡ (if is_among xs v then c.args.value else assignment_of before v))
          (sym (variables_more entries place no_entry c.entries-test.true))
          (filled_more before c.entries.values new c.args.value (variables_of (take place entries)) it.variable there.0
          (subst (λ n. it.variable ≤ n) (sym c.entries.invariant.one_each) there.1) c.set.ensures c.entries.invariant.filled);
    }

pub returns-clause-filled : goal.returns-clause-filled
returns-clause-filled c =
    subst (λ (xs : List ℕ). (v : ℕ) → 0 < v
    → assignment_of c.entries.values v ≡ (if is_among xs v then c.args.value else assignment_of c.args.values.now v))
    (take_whole c.args.entries.now c.entries.entry-index c.entries-test.false) c.entries.invariant.filled
