-- The trees of the worked cases, each under its source.
use Rattle.std.specs.Prelude.{true, false, [], ◌∷◌, pos}
use Rattle.tiny.specs.Operators as Operators
use Rattle.tiny.specs.Tree as Tree
use Rattle.tiny.specs.Tree.{Name, BlockTree, block, int_type, array, number, truth, name, assign, index, no_formal, formal, eval, if_then, write, call, compound, no_statement, statement, no_declaration, variable, procedure}

abbrev a : Name
a = 97 ∷ []

abbrev e : Name
e = 101 ∷ []

abbrev f : Name
f = 102 ∷ []

abbrev g : Name
g = 103 ∷ []

abbrev m : Name
m = 109 ∷ []

abbrev n : Name
n = 110 ∷ []

abbrev r : Name
r = 114 ∷ []

abbrev s : Name
s = 115 ∷ []

abbrev v : Name
v = 118 ∷ []

abbrev x : Name
x = 120 ∷ []

abbrev y : Name
y = 121 ∷ []

-- {}
abbrev pub empty : BlockTree
empty = block 0 no_declaration no_statement

-- {int x && @ x = 3; write x}
abbrev pub three : BlockTree
three = block 0 (variable (int_type 1) 5 x no_declaration)
    (statement (eval 10 (assign 14 (name 12 x) (number 16 (pos 3))))
    (statement (write 19 (name 25 x)) no_statement))

-- {int x && @ x = x + (x = 5); write x}: x is read before the inner assignment
abbrev pub early : BlockTree
early = block 0 (variable (int_type 1) 5 x no_declaration)
    (statement (eval 10 (assign 14 (name 12 x) (Tree.binary 18 Operators.add (name 16 x) (assign 23 (name 21 x) (number 25 (pos 5))))))
    (statement (write 29 (name 35 x)) no_statement))

-- {int x && write x - 1}
abbrev pub below : BlockTree
below = block 0 (variable (int_type 1) 5 x no_declaration)
    (statement (write 10 (Tree.binary 18 Operators.sub (name 16 x) (number 20 (pos 1)))) no_statement)

-- {write 3 - 1 + 2}
abbrev pub chain : BlockTree
chain = block 0 no_declaration
    (statement (write 1 (Tree.binary 13 Operators.add (Tree.binary 9 Operators.sub (number 7 (pos 3)) (number 11 (pos 1))) (number 15 (pos 2)))) no_statement)

-- {int[2][3] a && write a[2][1]}: three arrays of two
abbrev pub inside : BlockTree
inside = block 0 (variable (array 7 (array 4 (int_type 1) (pos 2)) (pos 3)) 11 a no_declaration)
    (statement (write 16 (index 26 (index 23 (name 22 a) (number 24 (pos 2))) (number 27 (pos 1)))) no_statement)

-- {int[2][3] a && write a[1][2]}
abbrev pub outside : BlockTree
outside = block 0 (variable (array 7 (array 4 (int_type 1) (pos 2)) (pos 3)) 11 a no_declaration)
    (statement (write 16 (index 26 (index 23 (name 22 a) (number 24 (pos 1))) (number 27 (pos 2)))) no_statement)

-- { {int x && @ x = 4}; {int y && write y} }: y has cells that x had, and is new
abbrev pub siblings : BlockTree
siblings = block 0 no_declaration
    (statement (compound (block 2 (variable (int_type 3) 7 x no_declaration) (statement (eval 12 (assign 16 (name 14 x) (number 18 (pos 4)))) no_statement)))
    (statement (compound (block 22 (variable (int_type 23) 27 y no_declaration) (statement (write 32 (name 38 y)) no_statement))) no_statement))

-- {int r; proc f(int n, int & s) {if n > 0 {@ s = s + n; call f(n - 1, s)}} && call f(3, r); write r}
abbrev pub sum : BlockTree
sum = block 0
    (variable (int_type 1) 5 r (procedure 13 f (formal (int_type 15) false 19 n (formal (int_type 22) true 28 s no_formal))
    (block 31 no_declaration (statement (if_then 32 (Tree.binary 37 Operators.gt (name 35 n) (number 39 (pos 0))) (block 41 no_declaration
    (statement (eval 42 (assign 46 (name 44 s) (Tree.binary 50 Operators.add (name 48 s) (name 52 n))))
    (statement (call 55 60 f (Tree.binary 64 Operators.sub (name 62 n) (number 66 (pos 1)) ∷ name 69 s ∷ [])) no_statement)))) no_statement)) no_declaration))
    (statement (call 77 82 f (number 84 (pos 3) ∷ name 87 r ∷ [])) (statement (write 91 (name 97 r)) no_statement))

-- {int r; proc g(int n) {int m && @ m = n; if n > 0 {call g(n - 1)}; @ r = r * 10 + m} && call g(2)}: each call has an n and an m of its own
abbrev pub turns : BlockTree
turns = block 0
    (variable (int_type 1) 5 r (procedure 13 g (formal (int_type 15) false 19 n no_formal)
    (block 22 (variable (int_type 23) 27 m no_declaration) (statement (eval 32 (assign 36 (name 34 m) (name 38 n)))
    (statement (if_then 41 (Tree.binary 46 Operators.gt (name 44 n) (number 48 (pos 0))) (block 50 no_declaration
    (statement (call 51 56 g (Tree.binary 60 Operators.sub (name 58 n) (number 62 (pos 1)) ∷ [])) no_statement)))
    (statement (eval 67 (assign 71 (name 69 r) (Tree.binary 80 Operators.add (Tree.binary 75 Operators.mul (name 73 r) (number 77 (pos 10))) (name 82 m)))) no_statement))))
    no_declaration))
    (statement (call 88 93 g (number 95 (pos 2) ∷ [])) no_statement)

-- {int[2] a; proc f(int[2] v, int & e) {@ v[0] = 8; @ e = v[1] + 1} && @ a[1] = 4; call f(a, a[0])}: v is a copy, e is a[0]
abbrev pub copies : BlockTree
copies = block 0
    (variable (array 4 (int_type 1) (pos 2)) 8 a (procedure 16 f (formal (array 21 (int_type 18) (pos 2)) false 25 v (formal (int_type 28) true 34 e no_formal))
    (block 37 no_declaration (statement (eval 38 (assign 45 (index 41 (name 40 v) (number 42 (pos 0))) (number 47 (pos 8))))
    (statement (eval 50 (assign 54 (name 52 e) (Tree.binary 61 Operators.add (index 57 (name 56 v) (number 58 (pos 1))) (number 63 (pos 1))))) no_statement))) no_declaration))
    (statement (eval 69 (assign 76 (index 72 (name 71 a) (number 73 (pos 1))) (number 78 (pos 4))))
    (statement (call 81 86 f (name 88 a ∷ index 92 (name 91 a) (number 93 (pos 0)) ∷ [])) no_statement))

-- {int x; int x &&}
abbrev pub twice : BlockTree
twice = block 0 (variable (int_type 1) 5 x (variable (int_type 8) 12 x no_declaration)) no_statement

-- {write 0 < 1 and true}: `and` binds more tightly than `<`
abbrev pub tight : BlockTree
tight = block 0 no_declaration
    (statement (write 1 (Tree.binary 9 Operators.lt (number 7 (pos 0)) (Tree.binary 13 Operators.and (number 11 (pos 1)) (truth 17 true)))) no_statement)

-- {int x && @ x = true; write x + true}: two nodes are broken
abbrev pub clash : BlockTree
clash = block 0 (variable (int_type 1) 5 x no_declaration)
    (statement (eval 10 (assign 14 (name 12 x) (truth 16 true)))
    (statement (write 22 (Tree.binary 30 Operators.add (name 28 x) (truth 32 true))) no_statement))
