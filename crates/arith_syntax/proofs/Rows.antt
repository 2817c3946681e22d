-- What the definition reads in small texts.
use Rattle.std.proofs.Common.{◌≡◌, ℕ, pos, List, [], ◌∷◌, Some, None, Result, Ok, Err, refl, codes, map}
use Prim.Native.String.{String}
use Rattle.arith_syntax.specs.declared.operator.Operator.{Operator}
use Rattle.arith_syntax.specs.declared.operator.Operator.TheVariants.{Add, Subtract, Multiply, Less, ShiftLeft, BitAnd, BitOr, Equal}
use Rattle.arith_syntax.specs.declared.operator.BinaryOperator.TheVariants.{Comma, Or, And, Both}
use Rattle.arith_syntax.specs.declared.operator.Sign.TheVariants.{Minus, Not, Complement}
use Rattle.arith_syntax.specs.declared.operator.Increment.TheVariants.{Up, Down}
use Rattle.arith_syntax.specs.declared.operator.Timing.TheVariants.{Post, Pre}
use Rattle.arith_syntax.specs.declared.error.Refusal.{Refusal}
use Rattle.arith_syntax.specs.declared.error.Refusal.TheVariants.{Syntax, Nesting}
use Rattle.arith_syntax.specs.Expression.{Expression, Variable, Named, Element, Nothing, Constant, ValueOf, Opened, Signed, Incremented, Raised, Joined, Chosen, Assigned}
use Rattle.std.specs.Int.{int_wrap}
use Rattle.arith_syntax.specs.Names.{after_blanks, name_at}
use Rattle.arith_syntax.specs.Constants.{written, constant_of}
use Rattle.arith_syntax.specs.Symbols.{post_increment, pre_increment, symbol_at}
use Rattle.arith_syntax.specs.Reading.{operand, power, binary_operator_at, grown, joined, binary, conditional, assignment, whole, reading, expression}

abbrev named : String → Variable
named text = Named (codes text)

abbrev x : Expression
x = ValueOf (named "x")

abbrev y : Expression
y = ValueOf (named "y")

abbrev n : ℕ → Expression
n k = Constant (pos k)

abbrev both : Operator → Expression → Expression → Expression
both o l r = Joined (Both o) l r

abbrev read : ℕ → String → Result Expression Refusal
read levels text = expression levels (codes text)

precedence : map (read 64) ("1+2*3" ∷ "1*2+3" ∷ "1-2-3" ∷ "1<2<<3" ∷ "1|2&3" ∷ "1||2&&0" ∷ "1,2" ∷ "1 == 2" ∷ [])
    ≡ Ok (both Add (n 1) (both Multiply (n 2) (n 3)))
    ∷ Ok (both Add (both Multiply (n 1) (n 2)) (n 3))
    ∷ Ok (both Subtract (both Subtract (n 1) (n 2)) (n 3))
    ∷ Ok (both Less (n 1) (both ShiftLeft (n 2) (n 3)))
    ∷ Ok (both BitOr (n 1) (both BitAnd (n 2) (n 3)))
    ∷ Ok (Joined Or (n 1) (Joined And (n 2) (n 0)))
    ∷ Ok (Joined Comma (n 1) (n 2))
    ∷ Ok (both Equal (n 1) (n 2)) ∷ []
unfolding expression after_blanks reading whole joined assignment conditional binary power operand pre_increment post_increment constant_of written symbol_at grown binary_operator_at name_at int_wrap
precedence = refl

nested : map (read 64) ("2**3**2" ∷ "-2**2" ∷ "2**-1" ∷ "(x)" ∷ "a[x]" ∷ "a[]" ∷ "a[ ]" ∷ "x?1:y?2:3" ∷ "x=y=1" ∷ "x+=1,y" ∷ "!~x" ∷ [])
    ≡ Ok (Raised (n 2) (Opened (Raised (n 3) (Opened (n 2)))))
    ∷ Ok (Raised (Signed Minus (Opened (n 2))) (Opened (n 2)))
    ∷ Ok (Raised (n 2) (Opened (Signed Minus (Opened (n 1)))))
    ∷ Ok (Opened x)
    ∷ Ok (ValueOf (Element (codes "a") (Opened x)))
    ∷ Ok (ValueOf (Element (codes "a") (Opened Nothing)))
    ∷ Ok (ValueOf (Element (codes "a") (Opened Nothing)))
    ∷ Ok (Chosen x (Opened (n 1)) (Opened (Chosen y (Opened (n 2)) (Opened (n 3)))))
    ∷ Ok (Assigned None (named "x") (Opened (Assigned None (named "y") (Opened (n 1)))))
    ∷ Ok (Joined Comma (Assigned (Some Add) (named "x") (Opened (n 1))) y)
    ∷ Ok (Signed Not (Opened (Signed Complement (Opened x)))) ∷ []
unfolding expression after_blanks reading whole joined assignment conditional binary power operand pre_increment post_increment constant_of written symbol_at grown binary_operator_at name_at int_wrap
nested = refl

steps : map (read 64) ("x++" ∷ "++x" ∷ "x -- " ∷ "- --x" ∷ "--5" ∷ "5--3" ∷ "x+++y" ∷ "x+++++y" ∷ "x- -1" ∷ "a[1]++" ∷ [])
    ≡ Ok (Incremented Post Up (named "x"))
    ∷ Ok (Opened (Incremented Pre Up (named "x")))
    ∷ Ok (Incremented Post Down (named "x"))
    ∷ Ok (Signed Minus (Opened (Opened (Incremented Pre Down (named "x")))))
    ∷ Ok (Signed Minus (Opened (Signed Minus (Opened (n 5)))))
    ∷ Ok (both Subtract (n 5) (Signed Minus (Opened (n 3))))
    ∷ Ok (both Add (Incremented Post Up (named "x")) y)
    ∷ Ok (both Add (Incremented Post Up (named "x")) (Opened (Incremented Pre Up (named "y"))))
    ∷ Ok (both Subtract x (Signed Minus (Opened (n 1))))
    ∷ Ok (Incremented Post Up (Element (codes "a") (Opened (n 1)))) ∷ []
unfolding expression after_blanks reading whole joined assignment conditional binary power operand pre_increment post_increment constant_of written symbol_at grown binary_operator_at name_at int_wrap
steps = refl

plain : map (read 64) ("" ∷ " \t\n" ∷ "\"\"" ∷ "1\"2\"" ∷ "0x1F" ∷ "0X1f" ∷ "010" ∷ "0" ∷ "16#ff" ∷ "37#A" ∷ "36#Z" ∷ "64#_" ∷ [])
    ≡ Ok Nothing ∷ Ok Nothing ∷ Ok Nothing ∷ Ok (n 12) ∷ Ok (n 31) ∷ Ok (n 31) ∷ Ok (n 8) ∷ Ok (n 0) ∷ Ok (n 255) ∷ Ok (n 36) ∷ Ok (n 35) ∷ Ok (n 63) ∷ []
unfolding expression after_blanks reading whole joined assignment conditional binary power operand pre_increment post_increment constant_of written symbol_at grown binary_operator_at name_at int_wrap
plain = refl

abbrev refused : Refusal → Result Expression Refusal
refused e = Err e

abbrev bad : List String
bad = "08" ∷ "0x" ∷ "10#" ∷ "1#0" ∷ "65#1" ∷ "010#1" ∷ "1a" ∷ "2#2" ∷ "()" ∷ "(1" ∷ "1)" ∷ "1 2" ∷ "1=2" ∷ "(x)=1" ∷ "x++=1" ∷ "1+x=2" ∷ "x?1:y=2" ∷ "x?1" ∷ "x?:1" ∷ "x--5" ∷ "5--x" ∷ "x++ ++" ∷ "++x++" ∷ "++x++ 5" ∷ "--x--y" ∷ "++a[0]-- 1" ∷ "a [1]" ∷ "a[1" ∷ "$x" ∷ "x**=2" ∷ "x==" ∷ "1;2" ∷ []

not_read : map (read 64) bad ≡ map (λ text. refused Syntax) bad
unfolding expression after_blanks reading whole joined assignment conditional binary power operand pre_increment post_increment constant_of written symbol_at grown binary_operator_at name_at int_wrap
not_read = refl

too_deep : map (read 1) ("(1)" ∷ "((1))" ∷ "-1" ∷ "--1" ∷ "++x" ∷ "-++x" ∷ "a[a[" ∷ "x=1" ∷ "x=y=1" ∷ "2**3" ∷ "2**3**" ∷ "x?1:2" ∷ "x?1:(2)" ∷ "x?(1)" ∷ ")((" ∷ "1 ((" ∷ "08((" ∷ [])
    ≡ Ok (Opened (n 1)) ∷ refused Nesting ∷ Ok (Signed Minus (Opened (n 1))) ∷ refused Nesting ∷ Ok (Opened (Incremented Pre Up (named "x"))) ∷ refused Nesting ∷ refused Nesting
    ∷ Ok (Assigned None (named "x") (Opened (n 1))) ∷ refused Nesting ∷ Ok (Raised (n 2) (Opened (n 3))) ∷ refused Nesting ∷ Ok (Chosen x (Opened (n 1)) (Opened (n 2))) ∷ refused Nesting ∷ refused Nesting
    ∷ refused Syntax ∷ refused Syntax ∷ refused Syntax ∷ []
unfolding expression after_blanks reading whole joined assignment conditional binary power operand pre_increment post_increment constant_of written symbol_at grown binary_operator_at name_at int_wrap
too_deep = refl
