-- How many cells a rule's parts take: siblings share cells, an inner block's come after its outer's. A call whose frame passes the memory is fault 27.
use Rattle.std.specs.Prelude.{ℕ, ◌+◌, max, List, [], ◌∷◌}
use Rattle.meaning.specs.Rule.{Formal, Action, Actions, Declarations, Block}
use Rattle.meaning.specs.Rule as Rule

-- the cells of a variable or formal
abbrev pub formal_size : Formal → ℕ
formal_size (Rule.by_value s) = s
formal_size (Rule.by_reference s) = 1

abbrev pub formals_size : List Formal → ℕ
formals_size [] = 0
formals_size (f ∷ fs) = formal_size f + formals_size fs

-- the cells of the variables that are declared
abbrev pub own_size : Declarations → ℕ
own_size Rule.none = 0
own_size (Rule.local s ds) = s + own_size ds
own_size (Rule.proc fs b ds) = own_size ds

-- the cells of a block: its own variables, and the most that one inner block needs
abbrev mutual
  pub block_extent : Block → ℕ
  block_extent (Rule.block ds xs) = own_size ds + actions_extent xs

  pub actions_extent : Actions → ℕ
  actions_extent Rule.nothing = 0
  actions_extent (Rule.◌then◌ a xs) = max (action_extent a) (actions_extent xs)

  pub action_extent : Action → ℕ
  action_extent (Rule.drop_place p) = 0
  action_extent (Rule.drop_value v) = 0
  action_extent (Rule.copy p q s) = 0
  action_extent (Rule.choose v b) = block_extent b
  action_extent (Rule.choose_else v b c) = max (block_extent b) (block_extent c)
  action_extent (Rule.repeat v b) = block_extent b
  action_extent (Rule.read_int p) = 0
  action_extent (Rule.read_bool p) = 0
  action_extent (Rule.write_int v) = 0
  action_extent (Rule.write_bool v) = 0
  action_extent Rule.newline = 0
  action_extent (Rule.call i xs) = 0
  action_extent (Rule.inner b) = block_extent b

-- the cells of a call: two for the way back, the formals, and the block
abbrev pub frame_size : List Formal → Block → ℕ
frame_size fs b = 2 + formals_size fs + block_extent b

-- the cells of a block's own variables
abbrev pub own_cells : Block → ℕ
own_cells (Rule.block ds xs) = own_size ds
