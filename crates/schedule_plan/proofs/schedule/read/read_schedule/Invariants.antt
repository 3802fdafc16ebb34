-- What the text is from here on is what it was from its start on.
use Rattle.std.proofs.Common.{◌≡◌, ℕ, List, [], ◌++◌, true, false}
use Rattle.std.specs.Prelude.{IsTrue}
use Rattle.text_scan.specs.Decides.{gained, Decides, OnlyReads}
use Rattle.text_scan.specs.Items.{items, items_of_front}
use Rattle.text_scan.specs.Scan.{ahead, so_far, is_reading, is_faulted, fuel}
use Rattle.schedule_plan.specs.ScheduleText.{max_bytes, broken_off}
use Rattle.schedule_plan.specs.ScheduleState.{Stands, no_draft, drafted}
use Rattle.schedule_plan.specs.ScheduleMemory.{items_may_want_memory, may_want_memory}
use Rattle.schedule_plan.proofs.schedule.read.read_schedule.Given as goal

abbrev pub invariant-tokens : goal.invariant-tokens
invariant-tokens g l = record {
  same : IsTrue g.S.Source.tells → Decides (g.S.Source.channel l.fn.source) (g.S.Source.channel l.source)
      (λ bytes more. drafted l.formula (items 35 max_bytes bytes) no_draft []
      ≡ drafted l.formula (ahead l.scanner more) l.line l.judge.moves.items);
  front : IsTrue g.S.Source.tells → is_reading l.scanner.status ≡ true
      → (more : List ℕ) → drafted l.formula (broken_off (items_of_front 35
      (gained (g.S.Source.channel l.fn.source) (g.S.Source.channel l.source) ++ more))) no_draft []
      ≡ drafted l.formula (broken_off (so_far l.scanner more)) l.line l.judge.moves.items;
  memory : IsTrue g.S.Source.tells → Decides (g.S.Source.channel l.fn.source) (g.S.Source.channel l.source)
      (λ bytes more. (n : ℕ) → IsTrue (items_may_want_memory n l.formula (ahead l.scanner more) l.line l.judge.moves.items)
      → IsTrue (may_want_memory l.formula n bytes));
  stands : Stands l.formula l.judge;
  sound : is_faulted l.scanner.status ≡ false;
  reads : OnlyReads (g.S.Source.channel l.fn.source) (g.S.Source.channel l.source);
  unfailed : (g.S.Source.channel l.source).faults ≡ (g.S.Source.channel l.fn.source).faults;
  beside : g.S.Source.beside l.source ≡ g.S.Source.beside l.fn.source;
}

abbrev pub decreases-tokens : goal.decreases-tokens
decreases-tokens g l = fuel l.scanner
