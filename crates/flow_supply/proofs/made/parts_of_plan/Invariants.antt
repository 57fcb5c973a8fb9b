use Rattle.std.proofs.Common.{◌≡◌, length, take}
use Rattle.flow_load.specs.Offers.{counts_of}
use Rattle.flow_supply.specs.Made.{counts_wanted}
use Rattle.flow_supply.proofs.Making.{EachMade}
use Rattle.flow_supply.proofs.made.parts_of_plan.Given as goal

abbrev pub invariant-loop-place : goal.invariant-loop-place
invariant-loop-place g l = record {
  count : length l.parts.items ≡ l.place;
  many : counts_of l.parts.items ≡ take l.place (counts_wanted l.own l.plan);
  each : EachMade g.M.Maker.makes l.maker l.own l.plan l.parts.items;
}
