-- What the top calls promise.
use Rattle.std.specs.Prelude.{◌≡◌}
use Rattle.flow_cli.specs.Alone.{ComesToEndAsAlone}
use Rattle.flow_cli.specs.Meant.{LeavesMeaning}
use Rattle.flow_load.specs.Statuses.{IsFinished, IsOver}
use Rattle.flow_cli.specs.Top.{Call, ComesToEnd, IsCaused, IsComplete}
use Rattle.flow_load.specs.Valid.{IsReplay}
use Rattle.flow_cli.specs.Updates.{CollatesEach, LeavesBooks}
use Rattle.flow_load.specs.declared.status.Status.TheVariants.{Running}

-- What every call keeps, by workers or without.
pub record KeepsPromises (c : Call) : Type 0 where
  -- A run came to its end, or what writes no file did: a check, a judge, a replay, a make, or a page.
  pub over : IsOver c.status → ComesToEnd c
  -- A run of a determinate plan ends as on one thread, with its status, report and files, whatever its workers did.
  pub one_outcome : IsOver c.status → ComesToEndAsAlone c
  -- A run that finished left the files that its network means, where all its processes are of standard kinds.
  pub meaning : IsFinished c.status → LeavesMeaning c.work
  -- A run that finished left the book of each of its batch updates of sorted files, where all its processes are of standard kinds.
  pub books : IsFinished c.status → LeavesBooks c.work
  -- Wherever a run of standard processes stood, a Collate that had ended had sent the collation of what its elements got.
  pub collated : CollatesEach c.work
  -- Each status has the cause of what the call came to.
  pub cause : IsCaused c
  -- No call but a replay ends while its network can go on.
  pub status : c.status ≡ Running → IsReplay c.work.words
  -- Where no count rose and all that was read is valid, the call comes to its end, or memory is wanting.
  pub complete : IsComplete c
