use Rattle.std.proofs.Common.{◌≡◌, ◌<◌, ◌^◌, drop}
use Rattle.std.specs.Str.Parse.{digits_value, digits_value_after}
use Rattle.purecap.proofs.words.slot.number_in.Given as goal

-- the digits so far write a number, and those that are left follow it
abbrev pub invariant-loop-digit : goal.invariant-loop-digit
invariant-loop-digit l = (digits_value_after 16 l.number (drop l.digit-index l.digits) ≡ digits_value 16 l.digits) × (l.number < 16 ^ l.digit-index)
