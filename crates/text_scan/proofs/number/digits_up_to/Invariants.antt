-- So far all bytes were digits, and this is their value.
use Rattle.std.proofs.Common.{◌≡◌, ◌-◌, ◌<◌, ◌≤◌, ◌^◌, true, take}
use Rattle.std.specs.List.{list_all}
use Rattle.cnf_base.specs.Number.{is_digit, value_after}
use Rattle.text_scan.proofs.number.digits_up_to.Given as goal

abbrev pub invariant-loop-len : goal.invariant-loop-len
invariant-loop-len l = record {
  range : l.len ≤ l.most;
  digits : list_all is_digit (take l.len l.bytes) ≡ true;
  value : l.value ≡ value_after 0 (take l.len l.bytes);
  small : l.value < 10 ^ l.len;
}

abbrev pub decreases-loop-len : goal.decreases-loop-len
decreases-loop-len l = l.most - l.len
