-- A plain pair and one that is kept are answered with nothing changed in the table.
use Rattle.std.proofs.Common.{Some, Ok, Contains, arith, ap, refl, inl, subst, sym}
use Rattle.node_table.specs.declared.node.Justification.{Justification}
use Rattle.node_table.specs.declared.node.Justification.TheVariants.{Clause}
use Rattle.node_table.specs.HandedOn.{no_error}
use Rattle.operations.specs.Caches.{IsLookedUp}
use Rattle.operations.specs.Entries.{Implication}
use Rattle.operations.specs.Pairs.{same_pair}
use Rattle.imply.specs.Cache.{entries, entry_of}
use Rattle.imply.proofs.Calls.{given_same, no_limit, some_same}
use Rattle.imply.proofs.Cached.{none_found}
use Rattle.imply.proofs.Refuted.{decided_plainly, not_plain, only_answer, plain_no_clause}
use Rattle.imply.proofs.implication.answer.Goals as goal

pub returns-in-Some-clause-answers : goal.returns-in-Some-clause-answers
returns-in-Some-clause-answers g c =
    let table = c.args.table.now in
    let before = entries c.args.cache.now in
    let u = c.args.u in
    let v = c.args.v in
    let can = c.requires.can in
    let found = c.in-Some.found in
    let plain = c.in-Some.ensures.plain in record {
      call = record {
        decided = decided_plainly c.cofactor_law.ensures table.graph can.sound.tied.reduced table.book.state.live u v can.first can.second
            found plain;
        steps = c.steps_law.ensures.at_most _ _ _ _ _ (omega arith) (c.steps_law.ensures.none table can.sound);
        nodes = refl;
        no_node_limit = no_limit found;
        id_limit = λ is. absurd (no_error is);
        accounts = c.accounts_law.ensures.none table before _ can.sound can.fits;
        unretired = λ id is. absurd (plain_no_clause u v found plain id (given_same found (Some (Clause id)) is));
        kept = λ differ first second just is. absurd (not_plain u v found differ first second plain);
        remembers = record { entries = λ entry there. inl there; no_fewer = omega arith; capacity = refl };
        price = c.price_law.ensures.none table c.args.cache.now.results u v _;
      };
      known = λ just there.
          let same = only_answer c.cofactor_law.ensures table.graph can.sound.tied.reduced table.book.state.live u v can.first can.second
          found just plain (can.fits.each (Implication u v just) there).1 in
          (ap Ok same, refl, record { there = λ entry had. had; back = λ entry had. had });
      plain = λ answer is. (ap Ok (some_same found answer (c.in-Some.ensures.exact answer is)), refl, refl);
    }

pub returns-in-None-clause-unknown : goal.returns-in-None-clause-unknown
returns-in-None-clause-unknown g c missed =
    let apart = c.in_default.ensures.plain in
    let looked = c.in-None.ensures in (
      looked.missed refl,
      record {
        differ = apart.0;
        first = apart.1;
        second = apart.2;
        none = λ just there. none_found just (looked.looked.exact just there);
        unused = λ used front. looked.looked.used used front;
      },
    )

pub returns-in-Some-look-clause-answers : goal.returns-in-Some-look-clause-answers
returns-in-Some-look-clause-answers g c =
    let table = c.args.table.now in
    let before = entries c.args.cache.now in
    let cache = c.args.cache.now in
    let after = c.look.new.self in
    let looked = entries after in
    let u = c.args.u in
    let v = c.args.v in
    let just = c.just.result in
    let can = c.requires.can in
    let apart = c.in_default.ensures.plain in
    let look = subst (λ (j : Justification). IsLookedUp entry_of same_pair cache.results after.results (u, v) (Some j)) (sym c.just.ensures)
    c.in-Some-look.ensures.looked in
    let same_list = look.leaves.same in
    let own = Implication u v just in
    let there = same_list.back own look.found in record {
      call = record {
        decided = (can.fits.each own there).1;
        steps = c.steps_law.ensures.at_most _ _ _ _ _ (omega arith) (c.steps_law.ensures.none table can.sound);
        nodes = refl;
        no_node_limit = no_limit (Some just);
        id_limit = λ is. absurd (no_error is);
        accounts = c.accounts_law.ensures.same table before looked _ can.sound same_list can.fits;
        unretired = λ id is. can.fits.unretired id (own, there, some_same just (Clause id) (given_same (Some just) (Some (Clause id)) is));
        kept = λ differ first second other is. subst (λ (j : Justification). Contains looked (Implication u v j))
            (some_same just other (given_same (Some just) (Some other) is)) look.found;
        remembers = record {
          entries = λ entry had. inl (same_list.there entry had);
          no_fewer = look.leaves.no_fewer;
          capacity = look.leaves.capacity;
        };
        price = c.price_law.ensures.looked table cache.results after.results u v apart.1 apart.2
            (λ used front. look.used used front);
      };
      known = λ other had. (ap Ok (look.exact other had), refl, same_list);
      plain = λ answer plain. absurd (not_plain u v answer apart.0 apart.1 apart.2 plain);
    }
