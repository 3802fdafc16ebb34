-- Purging entry by entry, the last one first.
use Rattle.std.proofs.Common.{◌≡◌, ◌+◌, ◌++◌, ◌∷◌, ℕ, Bool, true, false, cond, List, length, Option, Contains, filter, get_or, sym, ap, ◌∙◌}
use Rattle.std.proofs.Common.{subst, arith, inl, inr, eq-eqb}
use Rattle.std.specs.Prelude.{nat_eq}
use Rattle.std.specs.List.{IsDistinct}
use Rattle.std.proofs.lemmas.List.{append_assoc, get_or_append_left, get_or-append-add, length-append}
use Rattle.std.proofs.lemmas.List.Elements.{Contains-append_left, Contains-append_right, Contains-append_cases}
use Rattle.std.proofs.lemmas.Map.Keys.{apart_from_distinct}
use Rattle.node_table.specs.Table.{TableState, IsAddedTo}
use Rattle.operations.specs.Accounts.{RetiresOne}
use Rattle.operations.specs.Entries.{Entry, Fits, IsClauseOf, Names, just_of}
use Rattle.operations.specs.Purged.{IsPurged, MayRetire, PurgingTurns, are_marked}
use Rattle.operations.proofs.Accounts.{just_given, given_of}
use Rattle.operations.proofs.Elements.{there_first, there_more, first_or_more}
use Rattle.operations.proofs.Purged.{retired_cases}

-- no number is in both parts of a list without repetition
parts_apart : (xs ys : List ℕ) (id : ℕ) → IsDistinct nat_eq (xs ++ ys) → Contains xs id → Contains ys id → ⊥
parts_apart xs ys id distinct first second =
    let one : get_or (xs ++ ys) first.0 id ≡ id = get_or_append_left xs ys id first.0 first.1 ∙ first.2 in
    let other : get_or (xs ++ ys) (length xs + second.0) id ≡ id = get_or-append-add xs ys second.0 id ∙ second.2 in
    let differ : nat_eq (get_or (xs ++ ys) first.0 id) (get_or (xs ++ ys) (length xs + second.0) id) ≡ false =
    apart_from_distinct nat_eq (xs ++ ys) first.0 (length xs + second.0) id distinct (omega (arith, first.1))
    (omega (arith, second.1, length-append xs ys)) in
    let both : true ≡ false = sym (eq-eqb _ _ (one ∙ sym other)) ∙ differ in
    cc

module _ {S : Type 0} (old middle : TableState S) (marks : List Bool) (before after : List Entry) (entry : Entry)
    (purged : IsPurged old middle marks before after) where
  stays : are_marked marks entry ≡ true → IsPurged old middle marks (entry ∷ before) (entry ∷ after)
  stays marked = record {
    stays = (λ i. entry ∷ purged.stays i) ∙ ap (λ b. cond b (entry ∷ filter (are_marked marks) before) (filter (are_marked marks) before))
        (sym marked);
    more = purged.more;
    table = purged.table;
    named = λ id there. let by = purged.named id there in (by.0, there_more entry before by.0 by.1, by.2, by.3);
    each = λ other id there unmarked names. elim (first_or_more entry before other there) [
      | inl same ↦ absurd (let both : true ≡ false = sym marked ∙ ap (are_marked marks) same ∙ unmarked in cc)
      | inr more ↦ purged.each other id more unmarked names
    ];
    once = purged.once;
  }

  may : Fits old (entry ∷ before) → (Contains before entry → ⊥) → MayRetire middle entry
  may fits alone = record {
    own = λ id names. subst (λ (t : TableState S). IsAddedTo t id) (sym purged.table)
        (fits.own id (entry, there_first entry before, names));
    unretired = λ id names gone. elim (retired_cases old middle marks before after purged id gone) [
      | inl was ↦ fits.unretired id (entry, there_first entry before, names) was
      | inr now ↦
          let by = purged.named id now in
          let same : by.0 ≡ entry = fits.apart by.0 entry id (there_more entry before by.0 by.1) (there_first entry before) by.3 names in
          alone (subst (Contains before) same by.1)
    ];
  }

  module _ (new : TableState S) (given : Option ℕ) (unmarked : are_marked marks entry
      ≡ false) (is : IsClauseOf (just_of entry) given) (free : MayRetire middle entry)
      (one : RetiresOne middle new given) where
    abbrev more : List ℕ
    more = one.steps.extends.more

    retired_new : new.retired ≡ middle.retired ++ more
    retired_new = one.steps.extends.retired

    distinct_new : IsDistinct nat_eq new.retired
    distinct_new = one.steps.leaves.sound.retired.once

    -- what is retired since is the clause of the entry
    of_entry : (id : ℕ) → Contains more id → Names entry id
    of_entry id there = elim (one.only id (subst (λ (list : List ℕ). Contains list id) (sym retired_new)
        (Contains-append_right middle.retired more id there))) [
          | inl was ↦ absurd (parts_apart middle.retired more id (subst (IsDistinct nat_eq) retired_new distinct_new) was there)
          | inr own ↦ just_given (just_of entry) given is id own
        ]

    entry_retired : (id : ℕ) → Names entry id → Contains more id
    entry_retired id names =
        let now : Contains new.retired id = one.retired id (given_of (just_of entry) given is id names) in
        elim (Contains-append_cases middle.retired more id (subst (λ (list : List ℕ). Contains list id) retired_new now)) [
          | inl was ↦ absurd (free.unretired id names was)
          | inr since ↦ since
        ]

    goes : IsPurged old new marks (entry ∷ before) after
    goes = record {
      stays = purged.stays ∙ ap (λ b. cond b (entry ∷ filter (are_marked marks) before) (filter (are_marked marks) before)) (sym unmarked);
      more = purged.more ++ more;
      table = one.same
          ∙ ap (λ (list : List ℕ). record middle { retired = list }) retired_new
          ∙ ap (λ (t : TableState S). record t { retired = t.retired ++ more }) purged.table
          ∙ ap (λ (list : List ℕ). record old { retired = list }) (append_assoc old.retired purged.more more);
      named = λ id there. elim (Contains-append_cases purged.more more id there) [
        | inl early ↦ let by = purged.named id early in (by.0, there_more entry before by.0 by.1, by.2, by.3)
        | inr late ↦ (entry, there_first entry before, unmarked, of_entry id late)
      ];
      each = λ other id there not_marked names. elim (first_or_more entry before other there) [
        | inl same ↦ Contains-append_right purged.more more id (entry_retired id (subst (λ (e : Entry). Names e id) (sym same) names))
        | inr behind ↦ Contains-append_left purged.more more id (purged.each other id behind not_marked names)
      ];
      once = λ _. distinct_new;
    }

pub purging_turns : {S : Type 0} → PurgingTurns S
purging_turns = record {
  stays = λ old new marks before after entry purged. stays old new marks before after entry purged;
  goes = λ old middle new marks before after entry given purged unmarked is free one.
      goes old middle marks before after entry purged new given unmarked is free one;
  may = λ old middle marks before after entry fits alone purged. may old middle marks before after entry purged fits alone;
}
