-- How many nodes a call makes: where their functions are parts of some kind, no more than there are of these.
use Rattle.std.proofs.Common.{◌≡◌, ℕ, ◌<◌, ◌≤◌, ◌+◌, Bool, true, false, not, cond, List, length, Option, None, Some, is_some, nat_cmp, T}
use Rattle.std.proofs.Common.{Equal, refl, sym, ap, ◌∙◌, subst, arith, inl, inr}
use Rattle.std.specs.Cmp.{nat_cmp_total}
use Rattle.std.specs.FinMap.Entries.{find, find-where_key, is_some-find, is_sorted, is_sorted-where_key, same_entries, where_key}
use Rattle.std.proofs.lemmas.Bool.{cases_lt}
use Rattle.std.proofs.lemmas.List.Filters.{length-filter_both}
use Rattle.node_table.specs.declared.node.Branch.{Branch}
use Rattle.node_table.specs.Diagram.{Graph, IsReduced, KeepsNodes, branch_at}
use Rattle.node_table.specs.Value.{Levels, value_of}
use Rattle.node_table.specs.Table.{live_nodes}
use Rattle.node_table.specs.Made.{inner}
use Rattle.node_table.specs.Laws.{Canonical}
use Rattle.bdd_terms.specs.Parts.{AreMore, part_at}
use Rattle.bdd_terms.proofs.Listed.{differ_at, essential_at, function_at, functions_of, key_at, length-functions, listed, some_of}
use Rattle.std.specs.FinMap as finmap

some_cond : (b : Bool) (o : Option Branch) → is_some (cond b o None) ≡ true → (b ≡ true) × (is_some o ≡ true)
some_cond false o is = absurd (let e : false ≡ true = is in cc)
some_cond true o is = (refl, is)

none_of : (o : Option Branch) → not (is_some o) ≡ true → o ≡ None
none_of None is = refl
none_of (Some b) is = absurd (let e : false ≡ true = is in cc)

kept_get : (o n : Option Branch) → ((b : Branch) → o ≡ Some b → n ≡ Some b) → cond (is_some o) n None ≡ o
kept_get None n keeps = refl
kept_get (Some b) n keeps = keeps b refl

module _ (old new : Graph) (keeps : KeepsNodes old new) where
  abbrev was_there : ℕ → Bool
  was_there key = is_some (branch_at old key)

  abbrev is_new : ℕ → Bool
  is_new key = not (was_there key)

  abbrev all : List (ℕ × Branch)
  all = finmap.entries new.nodes

  -- the nodes that weren't there
  abbrev fresh : List (ℕ × Branch)
  fresh = where_key nat_cmp is_new all

  abbrev still : List (ℕ × Branch)
  still = where_key nat_cmp was_there all

  alike : (test : ℕ → Bool) (q x : ℕ) → nat_cmp q x ≡ Equal → test x ≡ test q
  alike test q x is = ap test (sym (finmap.nat_cmp-IsAntisymmetric q x is))

  found : (q : ℕ) → find nat_cmp q still ≡ find nat_cmp q (finmap.entries old.nodes)
  found q =
      find-where_key nat_cmp was_there q (alike was_there q) all
      ∙ ap (λ (o : Option Branch). cond (was_there q) o None) (sym (finmap.get-entries new.nodes q))
      ∙ kept_get (branch_at old q) (branch_at new q) (λ b at. keeps.nodes q b at)
      ∙ finmap.get-entries old.nodes q

  still_all : still ≡ finmap.entries old.nodes
  still_all =
      same_entries nat_cmp nat_cmp_total finmap.nat_cmp-IsAntisymmetric still (finmap.entries old.nodes)
      (is_sorted-where_key nat_cmp was_there all (finmap.entries_sorted new.nodes))
      (finmap.entries_sorted old.nodes) found

  counted : length fresh + live_nodes old ≡ live_nodes new
  counted =
      let both = length-filter_both (λ (e : ℕ × Branch). was_there e.0) (λ (e : ℕ × Branch). is_new e.0) (λ e. refl) all in
      let kept = ap length still_all in
      omega (arith, both, kept, finmap.len-entries old.nodes, finmap.len-entries new.nodes)

  fresh_at : (place : ℕ) → place < length fresh → (is_new (key_at fresh place) ≡ true)
      × (is_some (branch_at new (key_at fresh place)) ≡ true)
  fresh_at place small =
      let q = key_at fresh place in
      let parts = some_cond (is_new q) (find nat_cmp q all)
      (sym (ap is_some (find-where_key nat_cmp is_new q (alike is_new q) all)) ∙ is_some-find nat_cmp q fresh ∙ listed fresh place small) in
      (parts.0, ap is_some (finmap.get-entries new.nodes q) ∙ parts.1)

  stands : (place : ℕ) → place < length fresh → is_some (branch_at new (key_at fresh place)) ≡ true
  stands place small = (fresh_at place small).1

  -- of any kind of parts: the functions of the new nodes are such parts
  module _ (canonical : Canonical) (reduced : IsReduced new) (is_part : (Levels → Bool) → Type 0)
      (made : (key : ℕ) (branch : Branch) → branch_at new key ≡ Some branch → branch_at old key ≡ None
      → is_part (λ a. value_of new a (inner key))) where
    sorted : T (is_sorted nat_cmp fresh)
    sorted = is_sorted-where_key nat_cmp is_new all (finmap.entries_sorted new.nodes)

    are_parts : (place : ℕ) → place < length fresh → is_part (part_at (functions_of new fresh) place)
    are_parts place small =
        let at = fresh_at place small in
        let branch = some_of (branch_at new (key_at fresh place)) at.1 in
        subst is_part (sym (function_at new fresh place small))
        (made (key_at fresh place) branch.0 branch.1 (none_of (branch_at old (key_at fresh place)) at.0))

    pub few_made : (width : ℕ) → (AreMore is_part width → ⊥) → live_nodes new ≤ live_nodes old + width
    few_made width most = elim (cases_lt (live_nodes old + width) (live_nodes new)) [
      | inr few ↦ few
      | inl many ↦
          let listed_all = length-functions new fresh in
          let within : (place : ℕ) → place < length (functions_of new fresh) → place
          < length fresh = λ place small. omega (arith, small, listed_all) in
          absurd (most (record {
            parts = functions_of new fresh;
            more = omega (arith, many, counted, listed_all);
            are = λ place small. are_parts place (within place small);
            essential = λ place small. essential_at canonical new reduced fresh sorted stands place (within place small);
            differ = λ place other less small. differ_at canonical new reduced fresh sorted stands place other less (within other small);
          }))
    ]
