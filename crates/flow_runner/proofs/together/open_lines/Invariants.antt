use Rattle.std.proofs.Common.{◌≡◌, ◌≤◌, All, length, vec_capacity}
use Rattle.flow_limits.specs.declared.TheConstants.{WORKER_LIMIT}
use Rattle.flow_runner.specs.Lines.{parts_of}
use Rattle.flow_runner.specs.Posts.{ArePassesAt, AreRoomFor}
use Rattle.flow_runner.proofs.together.open_lines.Given as goal

-- each line so far is for all processes, and has one pass
abbrev pub invariant-loop-line : goal.invariant-loop-line
invariant-loop-line l = record {
  count : length l.posts.items ≡ l._line;
  room : AreRoomFor l.processes l.posts.items;
  passes : ArePassesAt l.posts.items l.firsts.items;
  parts : All (λ p. parts_of p ≡ WORKER_LIMIT) l.firsts.items;
  posts : l.workers ≤ vec_capacity l.posts;
  firsts : l.workers ≤ vec_capacity l.firsts;
}
