-- Worked cases of import (02, request 1), rows of one list: names, one letter each; a text; the answer due.
use Rattle.std.specs.Prelude.{List, [], ◌∷◌, ℕ}
use Prim.Native.Char.{code}
use Prim.Native.String.{String}
use Rattle.refusals.specs.declared.Refusal.TheVariants.{Grammar, NotBinary, Unmatched}
use Rattle.refusals.specs.Refusals.{Answer, accepted, refused}
use Rattle.newick_rules.specs.Importing.{imported}

-- the bytes of a text in ASCII
unfoldable pub ascii : String → List ℕ
ascii String.[] = []
ascii (String.◌∷◌ c t) = code c ∷ ascii t

-- each letter is a strain's name
unfoldable pub strains : String → List (List ℕ)
strains String.[] = []
strains (String.◌∷◌ c t) = (code c ∷ []) ∷ strains t

pub data Case : Type 0 where
  row : (letters text : String) → Answer (List ℕ) → Case

abbrev pub answer_to : Case → Answer (List ℕ)
answer_to (row l t a) = imported (strains l) (ascii t)

abbrev pub due : Case → Answer (List ℕ)
due (row l t a) = a

unfoldable pub cases : List Case
cases =
    row "abcde" "(a,b,(c,(d,e)));" (accepted (3 ∷ 4 ∷ 2 ∷ 5 ∷ 1 ∷ 6 ∷ []))
    ∷ row "abcde" "((a,b),(c,(d,e)));" (accepted (3 ∷ 4 ∷ 2 ∷ 5 ∷ 1 ∷ 6 ∷ []))
    ∷ row "abcde" "(((e,d),c),b,a);" (accepted (3 ∷ 4 ∷ 2 ∷ 5 ∷ 1 ∷ 6 ∷ []))
    ∷ row "abcde" " ( d:1e-3 , e :.5 , ( c,( a , b ):0\t)\n) : 7 ;" (refused (Grammar 41))
    ∷ row "abcde" " ( d:1e-3 , e :.5 , ( c,( a , b ):0\t)\n) :7 ; " (accepted (3 ∷ 4 ∷ 2 ∷ 5 ∷ 1 ∷ 6 ∷ []))
    -- the first byte that breaks the grammar, or the length of a text that stops early
    ∷ row "abc" "" (refused (Grammar 0))
    ∷ row "abc" " \t\r\n" (refused (Grammar 4))
    ∷ row "abc" "a" (refused (Grammar 0))
    ∷ row "abc" " a;" (refused (Grammar 1))
    ∷ row "abc" "()" (refused (Grammar 1))
    ∷ row "abc" "(a b)" (refused (Grammar 3))
    ∷ row "abc" "(a\0,b)" (refused (Grammar 2))
    ∷ row "abc" "(a: 1)" (refused (Grammar 3))
    ∷ row "abc" "(a:,b)" (refused (Grammar 3))
    ∷ row "abc" "(a:1:2" (refused (Grammar 4))
    ∷ row "abc" "(a,b)x;" (refused (Grammar 5))
    ∷ row "abc" "(a,b)) ;" (refused (Grammar 5))
    ∷ row "abc" "(a,b,c) " (refused (Grammar 8))
    ∷ row "abc" "(a,b,c); x" (refused (Grammar 9))
    -- then the nodes, then the names, each over the whole text
    ∷ row "abc" "(x);" (refused NotBinary)
    ∷ row "abc" "(a,a,(b,c,x));" (refused NotBinary)
    ∷ row "abc" "(a,b,c,x);" (refused NotBinary)
    ∷ row "abc" "(a,b);" (refused Unmatched)
    ∷ row "abc" "(a,b,ab);" (refused Unmatched)
    ∷ row "abc" "(a,b,aaaaaaaaaaaaaaaaaaaaaaaaaaaaaaaaaaaaaaaaa);" (refused Unmatched)
    ∷ row "abc" "(a,(b,(c,a)));" (refused Unmatched)
    ∷ row "abc" "(c:e,(a:--,b):+):E;" (accepted (1 ∷ 2 ∷ []))
    ∷ []
