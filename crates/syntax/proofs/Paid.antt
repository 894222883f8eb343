-- Each node of a tree is paid for by a token that was read.
use Rattle.std.proofs.Common.{◌+◌, ◌≤◌, List, length, arith}
use Rattle.tiny.specs.Token.{Token}
use Rattle.syntax.specs.Shape.{Tree, size}
use Rattle.syntax.specs.Grammar.{Sort, Derives}
use Rattle.syntax.specs.Grammar.{Derives as D}

pub paid : {s : Sort} {b : List Token} {e : Tree} {a : List Token} → Derives s b e a → size e + length a ≤ length b
paid (D.name _) = omega arith
paid (D.literal _) = omega arith
paid (D.truth _) = omega arith
paid (D.parens _ d _) = omega (arith, paid d)
paid (D.e6_basic d) = omega (arith, paid d)
paid (D.index d _ e _) = omega (arith, paid d, paid e)
paid (D.select d _ _) = omega (arith, paid d)
paid (D.e5_e6 d) = omega (arith, paid d)
paid (D.prefixed _ d) = omega (arith, paid d)
paid (D.e4_e5 d) = omega (arith, paid d)
paid (D.product d _ e) = omega (arith, paid d, paid e)
paid (D.e3_e4 d) = omega (arith, paid d)
paid (D.conjunction d _ e) = omega (arith, paid d, paid e)
paid (D.disjunction d _ e) = omega (arith, paid d, paid e)
paid (D.e2_e3 d) = omega (arith, paid d)
paid (D.difference d _ e) = omega (arith, paid d, paid e)
paid (D.sum d _ e) = omega (arith, paid d, paid e)
paid (D.e1_e2 d) = omega (arith, paid d)
paid (D.relation d _ e) = omega (arith, paid d, paid e)
paid (D.e0_e1 d) = omega (arith, paid d)
paid (D.assignment d _ e) = omega (arith, paid d, paid e)
paid (D.basic_type _) = omega arith
paid (D.type_name _) = omega arith
paid (D.struct _ _ d _) = omega (arith, paid d)
paid (D.array d _ _ _) = omega (arith, paid d)
paid (D.field_of d _) = omega (arith, paid d)
paid (D.by_value d _) = omega (arith, paid d)
paid (D.by_reference d _ _) = omega (arith, paid d)
paid (D.variable d _) = omega (arith, paid d)
paid (D.type_declaration _ d _) = omega (arith, paid d)
paid (D.procedure _ _ d e) = omega (arith, paid d, paid e)
paid (D.eval _ d) = omega (arith, paid d)
paid (D.if _ d e) = omega (arith, paid d, paid e)
paid (D.while _ d e) = omega (arith, paid d, paid e)
paid (D.read _ d) = omega (arith, paid d)
paid (D.write _ d) = omega (arith, paid d)
paid (D.nl _) = omega arith
paid (D.call _ _ d) = omega (arith, paid d)
paid (D.compound d) = omega (arith, paid d)
paid (D.then d) = omega (arith, paid d)
paid (D.else d _ e) = omega (arith, paid d, paid e)
paid (D.instructions d) = omega (arith, paid d)
paid (D.declared d _) = omega (arith, paid d)
paid (D.both d _ e) = omega (arith, paid d, paid e)
paid (D.one d) = omega (arith, paid d)
paid (D.more d _ e) = omega (arith, paid d, paid e)
paid (D.nothing _ _) = omega arith
paid (D.something _ d _) = omega (arith, paid d)
