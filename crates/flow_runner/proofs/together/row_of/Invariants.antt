use Rattle.std.proofs.Common.{◌≡◌, ◌⊎◌, ℕ, ◌+◌, ◌<◌, ◌≤◌, get_or, length, vec_capacity}
use Rattle.flow_runner.specs.declared.line.LinePass.{LinePass}
use Rattle.flow_runner.specs.declared.lines.Post.{Post}
use Rattle.flow_runner.specs.Lines.{parts_of, IsPassAt}
use Rattle.flow_runner.specs.Posts.{ArePassesAt}
use Rattle.flow_runner.proofs.together.row_of.Given as goal

-- each line so far has a pass in the row, and its first pass has a part less
abbrev pub invariant-loop-i : goal.invariant-loop-i
invariant-loop-i l = record {
  count : length l.row.items ≡ l.i;
  room : length l.posts.items ≤ vec_capacity l.row;
  firsts : ArePassesAt l.posts.items l.firsts.items;
  row : (k : ℕ) (e : LinePass) → k < length l.row.items → (d : Post) → IsPassAt (get_or l.posts.items k d).line (get_or l.row.items k e);
  parts : (k : ℕ) (e : LinePass) → k < length l.firsts.items → (k < l.i × (parts_of (get_or l.firsts.items k e) + 1 ≡ parts_of (get_or l.fn.firsts.items k e))) ⊎ (l.i ≤ k × (parts_of (get_or l.firsts.items k e) ≡ parts_of (get_or l.fn.firsts.items k e)));
}
