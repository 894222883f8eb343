-- How deep something stands, and what a pass over depth says.
use Rattle.std.specs.Prelude.{◌≡◌, ℕ, min, List, ◌++◌, Result}
use Rattle.tiny.specs.declared.placed.Placed.{Placed}
use Rattle.syntax.specs.Shape.{Tree}
use Rattle.syntax.specs.Shape.Tree.{leaf, under, join}
use Rattle.syntax.specs.View.{block}
use Rattle.nodes.specs.declared.subtree.Subtree.{Subtree}
use Rattle.nodes.specs.Subtrees.{Shown}
use Rattle.meaning.specs.Stages.{Break, deep_block}
use Rattle.checks.specs.declared.depth.Depth.{Depth}
use Rattle.checks.specs.declared.faults.DepthCause.{DepthCause}
use Rattle.checks.specs.Breaks.{Tells, depth_break}

-- the breaks of depth behind the condition of an `if`: of its one block, or of both
abbrev pub deep_branches : Tree → ℕ → ℕ → List Break
deep_branches (leaf t) d l = deep_block (block (leaf t)) d l
deep_branches (under t e) d l = deep_block (block (under t e)) d l
deep_branches (join t a b) d l = deep_block (block a) d l ++ deep_block (block b) d l

-- so many nodes down, inside so many procedures, each counted up to 255
pub record Counts (c : Depth) (d l : ℕ) : Type 0 where
  pub nodes : c.nodes ≡ min d 255
  pub procedures : c.procedures ≡ min l 255

-- the answer is the first of these breaks, whatever tree the subtree shows
abbrev pub DepthIs : {X : Type 0} → Subtree → Result X (Placed DepthCause) → (Tree → List Break) → Type 0
DepthIs s r f = (source : List ℕ) (t : Tree) → Shown source s t → Tells depth_break r (f t)

-- the same of a subtree that stands so deep
abbrev pub DeepIs : {X : Type 0} → Subtree → Depth → Result X (Placed DepthCause) → (Tree → ℕ → ℕ → List Break) → Type 0
DeepIs s c r f = (source : List ℕ) (t : Tree) (d l : ℕ) → Shown source s t → Counts c d l → Tells depth_break r (f t d l)
