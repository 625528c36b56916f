use Rattle.std.proofs.Common.{◌≡◌, ◌≤◌, true, take}
use Rattle.std.specs.Char.{is_ascii_digit}
use Rattle.std.specs.List.{list_all}
use Rattle.std.specs.Str.Parse.{digits_value}
use Rattle.openpgp_status.proofs.fields.hash_number.Given as goal

abbrev pub invariant-loop-digit : goal.invariant-loop-digit
invariant-loop-digit l = record {
  value : l.number ≡ digits_value 10 (take l.digit-index l.digits);
  digits : list_all is_ascii_digit (take l.digit-index l.digits) ≡ true;
  none : l.digit-index ≡ 0 → l.number ≡ 0;
  one : l.digit-index ≤ 1 → l.number ≤ 9;
  two : l.digit-index ≤ 2 → l.number ≤ 99;
  small : l.number ≤ 999;
}
