-- Worked examples: short sources, and the rules that they are, or where they are refused.
use Rattle.std.specs.Prelude.{◌≡◌, ℕ, true, false, [], ◌∷◌, pos, negsuc, codes}
use Rattle.tiny.specs.declared.faults.ScanCause.TheVariants.{NoToken}
use Rattle.tiny.specs.Operators.{Unary, Binary}
use Rattle.tiny.specs.Tree.{Expression, Statement, Statements, BlockTree, int_type, bool_type, named, array, struct, no_field, field_of, number, truth, name, assign, binary, unary, index, select, no_formal, formal, eval, if_else, while, write, nl, call, compound, no_statement, statement, no_declaration, variable, type_name, procedure, block}
use Rattle.syntax.specs.Source.{read, unscanned, unparsed, rule}

-- a block of instructions alone
abbrev pub plain : Statements → BlockTree
plain ss = block 0 no_declaration ss

abbrev pub only : Statement → Statements
only s = statement s no_statement

abbrev pub x : ℕ → Expression
x p = name p (codes "x")

pub record WorkedRules : Type 0 where
  pub nothing : read (codes "{}") ≡ rule (plain no_statement)
  pub blanks : read (codes " { } ## done") ≡ rule (block 1 no_declaration no_statement)
  pub declared : read (codes "{int x &&}") ≡ rule (block 0 (variable (int_type 1) 5 (codes "x") no_declaration) no_statement)
  pub assigned :
      read (codes "{int x && @ x = 3; write x}")
      ≡ rule (block 0 (variable (int_type 1) 5 (codes "x") no_declaration) (statement (eval 10 (assign 14 (x 12) (number 16 (pos 3)))) (only (write 19 (x 25)))))
  -- level 0 goes to the right, and a parenthesis begins again there
  pub chained : read (codes "{@ x = x = (x = 1)}") ≡ rule (plain (only (eval 1 (assign 5 (x 3) (assign 9 (x 7) (assign 14 (x 12) (number 16 (pos 1))))))))
  -- a difference, then sums
  pub sums : read (codes "{write 3 - 1 + 2}") ≡ rule (plain (only (write 1 (binary 13 Binary.add (binary 9 Binary.sub (number 7 (pos 3)) (number 11 (pos 1))) (number 15 (pos 2))))))
  -- `and` and `or` bind closer than relations
  pub logic :
      read (codes "{write 0 < 1 and true}") ≡ rule (plain (only (write 1 (binary 9 Binary.lt (number 7 (pos 0)) (binary 13 Binary.and (number 11 (pos 1)) (truth 17 true))))))
  pub prefixes : read (codes "{write - -1 * not x}") ≡ rule (plain (only (write 1 (binary 12 Binary.mul (unary 7 Unary.neg (number 9 (negsuc 0))) (unary 14 Unary.not (x 18))))))
  -- int[2][3] has 3 elements of int[2]
  pub arrays :
      read (codes "{int[2][3] x && write x[2][1]}")
      ≡ rule (block 0 (variable (array 7 (array 4 (int_type 1) (pos 2)) (pos 3)) 11 (codes "x") no_declaration) (only (write 16 (index 26 (index 23 (x 22) (number 24 (pos 2))) (number 27 (pos 1))))))
  pub structs :
      read (codes "{type struct {int a, bool b} t &&}")
      ≡ rule (block 0 (type_name (struct 6 (field_of (int_type 14) 18 (codes "a") (field_of (bool_type 21) 26 (codes "b") no_field))) 29 (codes "t") no_declaration) no_statement)
  pub procedures :
      read (codes "{proc f(int x, t & y) {nl} && call f(1, x.a)}")
      ≡ rule (block 0 (procedure 6 (codes "f") (formal (int_type 8) false 12 (codes "x") (formal (named 15 (codes "t")) true 19 (codes "y") no_formal))
      (block 22 no_declaration (only (nl 23))) no_declaration) (only (call 30 35 (codes "f") (number 37 (pos 1) ∷ select 41 (x 40) (codes "a") ∷ []))))
  pub branches :
      read (codes "{if x {} else {nl}; while x {}; {}}")
      ≡ rule (plain (statement (if_else 1 (x 4) (block 6 no_declaration no_statement) (block 14 no_declaration (only (nl 15))))
      (statement (while 20 (x 26) (block 28 no_declaration no_statement)) (only (compound (block 32 no_declaration no_statement))))))
  -- the sign belongs to the literal
  pub signed : read (codes "{int x && write x-1}") ≡ unparsed 17
  pub minus_behind_plus : read (codes "{write 1 + 2 - 3}") ≡ unparsed 13
  pub minus_behind_minus : read (codes "{write 1 - 2 - 3}") ≡ unparsed 13
  pub or_or : read (codes "{write x or x or x}") ≡ unparsed 14
  pub or_and : read (codes "{write x or x and x}") ≡ unparsed 14
  pub unfinished : read (codes "{write 1") ≡ unparsed 8
  pub nothing_at_all : read [] ≡ unparsed 0
  pub more_behind : read (codes "{} {}") ≡ unparsed 3
  pub last_separator : read (codes "{nl;}") ≡ unparsed 4
  pub no_declarations : read (codes "{&& nl}") ≡ unparsed 1
  pub unused_word : read (codes "{new x}") ≡ unparsed 1
  -- the scan goes first, over the whole source
  pub scan_first : read (codes "{new x} !") ≡ unscanned NoToken 8
