-- Records with the pairing that a tree itself gives their leaves (01, "Polls").
use Rattle.std.specs.Prelude.{Bool, eqb}
use Rattle.trees.specs.Trees.{Tree}
use Rattle.trees.specs.Quartets.{pairing}
use Rattle.poll_rules.specs.declared.Record.{Record}

-- the record has the tree's own pairing of its leaves
unfoldable pub is_own : Tree → Record → Bool
is_own T r = eqb r.code (pairing T r.a r.b r.c r.d)
