-- The call as it is worked off.
use Rattle.operations.specs.Accounts.{whole_result}
use Rattle.apply_and.specs.Cache.{entries}
use Rattle.apply_and.proofs.conjoin.and.Goals as goal

pub returns : goal.returns
returns g c =
    let answers = c.work_off.ensures in
    let call = answers.call in record {
      conjoined = call.conjoined;
      steps = call.steps;
      fits = λ whole. call.accounts.fits (whole_result c.work_off.result whole);
      others = λ list fits apart whole.
          c.accounts_law.ensures.beside c.args.table.now c.work_off.new.table (entries c.args.cache.now)
          (entries c.work_off.new.cache) list _ _ c.requires.sound call.steps call.accounts fits apart
          (whole_result c.work_off.result whole);
      named = λ whole. call.accounts.named (whole_result c.work_off.result whole);
      retires = call.accounts.retires;
      accounts = λ whole. call.accounts.accounts (whole_result c.work_off.result whole);
      unretired = call.unretired;
      price = λ us vs first second room.
          c.price_law.ensures.whole c.args.table.now c.work_off.new.table c.args.cache.now.results c.work_off.new.cache.results c.args.u
          c.args.v us vs _ call.price first second room;
      known = answers.known;
      kept = call.kept;
      remembered = call.remembers.entries;
      no_fewer = call.remembers.no_fewer;
      capacity = call.remembers.capacity;
      made = call.made;
      reachable = call.reachable;
      plain = answers.plain;
      lacks = call.lacks;
    }
