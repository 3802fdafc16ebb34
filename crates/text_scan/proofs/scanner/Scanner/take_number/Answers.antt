-- The token ahead is given.
use Rattle.std.proofs.Common.{◌≡◌, ◌-◌, ◌≤◌, take, length, w64, to_z, of_z, arith, refl, sym, ◌∙◌, ap}
use Rattle.std.proofs.lemmas.Int.{to_z-of_z}
use Rattle.text_scan.specs.declared.scanner.ScanStatus.TheVariants.{Reading}
use Rattle.text_scan.specs.Scan.{Scan}
use Rattle.text_scan.proofs.NumberAhead.{small_fits}
use Rattle.text_scan.proofs.WordAhead.{block_run, block_front}
use Rattle.text_scan.proofs.scanner.Scanner.take_number.Goals as goal

pub returns-clause-took : goal.returns-clause-took
returns-clause-took c = let s = c.self.inside in
    let fits : s.end ≤ length s.block = omega (arith, c.self.invariant.size, c.self.invariant.in_block) in
    let is = c.in_ok-number.ensures in
    let same : to_z w64 (of_z w64 c.in_ok-number.number) ≡ c.in_ok-number.number = to_z-of_z w64 c.in_ok-number.number
    (small_fits c.in_ok-number.number is.small) in
    let reading : c.args.self.now.status ≡ Reading = c.requires in
    let status : s.status ≡ Reading = ap (λ (scan : Scan). scan.status) c.self.view_is ∙ reading in
    let room : c.args.self.now.room ≡ s.room - s.at = sym (ap (λ (scan : Scan). scan.room) c.self.view_is) in
    let runs = block_run c.args.self.now s.lexer s.block s.at s.end s.room c.in_ok-number.len
    (record { bytes = take 65 (take c.in_ok-number.len c.args.self.now.unread); line = c.args.self.now.lex.line }) c.pass_word.new.self
    is.ahead
    (sym (ap (λ (scan : Scan). scan.lex) c.self.view_is)) (sym (ap (λ (scan : Scan). scan.unread) c.self.view_is))
    (sym (ap (λ (scan : Scan). scan.room) c.self.view_is)) fits c.pass_word.ensures in
    let fronts = block_front c.args.self.now s.lexer s.block s.at s.end c.in_ok-number.len
    (record { bytes = take 65 (take c.in_ok-number.len c.args.self.now.unread); line = c.args.self.now.lex.line }) c.pass_word.new.self
    is.ahead
    (sym (ap (λ (scan : Scan). scan.lex) c.self.view_is)) (sym (ap (λ (scan : Scan). scan.unread) c.self.view_is)) fits c.pass_word.ensures
    in
    rw same (record {
      word = record { bytes = take 65 (take c.in_ok-number.len c.args.self.now.unread); line = c.args.self.now.lex.line };
      number_is = is.number_is;
      small = is.small;
      line = refl;
      reading = reading;
      status = status;
      gives = λ more. rw (reading, status) (runs more);
      so_far = fronts;
      gave = record {
        line = c.line-self-inside.ensures ∙ ap (λ (scan : Scan). scan.lex.line) c.self.view_is;
        less = rw (reading, status) (omega (arith, room, is.ahead.under));
        sound = rw status refl;
        fits = rw status refl;
      };
    })
