-- How many packets were added to those that are left.
use Rattle.std.proofs.Common.{◌≡◌, ℕ, ◌-◌, List, ◌++◌, length, ap, arith, length-append}
use Rattle.flow_packet.specs.Tree.{Tree, all_ids}
use Rattle.flow_report.specs.declared.report.LeftPacket.{LeftPacket}
use Rattle.flow_report.specs.declared.report.Place.{Place}
use Rattle.flow_report.specs.Left.{left_at}
use Rattle.flow_report.proofs.LeftLists.{length-left_at}

-- One root more tells as many packets as its tree has.
pub left-count : (place : Place) (ts us : List Tree) (before after : List LeftPacket) (m n : ℕ) → n ≡ length before → m ≡ length after → after ≡ before ++ left_at place ts → ts ≡ us
    → m - n ≡ length (all_ids us)
left-count place ts us before after m n n_is m_is grown same =
    omega (arith, n_is, m_is, ap length grown, length-append before (left_at place ts), length-left_at place ts, ap (λ (l : List Tree). length (all_ids l)) same)
