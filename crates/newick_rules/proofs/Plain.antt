-- The plain text of a drawing is a right text of it, if its names are names and it nests no deeper than the limit.
use mathlib.Core.Path.{◌≡◌, refl}
use mathlib.Core.Bool.{Bool, true, ◌&&◌}
use mathlib.Core.List.{List, [], ◌∷◌, ◌++◌, append-nil}
use Prim.Native.Nat.{ℕ, ◌≤◌}
use borrow.Author.Tests.{leb-true}
use lib.Dec.{leb}
use lib.ListN.{length}
use Rattle.base.specs.Lists.{all_in}
use Rattle.base.proofs.Bools.{and_both}
use Rattle.base.proofs.Lists.{every_both}
use Rattle.sheet_rules.specs.Sheets.{name_byte}
use Rattle.newick_rules.specs.Drawings.{Drawing, name, bracket, Parts, one, more, nesting, names_in}
use Rattle.newick_rules.specs.Drawings.{names_in_parts}
use Rattle.newick_rules.specs.Reader.{semicolon}
use Rattle.newick_rules.specs.Writings.{Word, Item, word, group, Items, first, next}
use Rattle.newick_rules.specs.Writings.{trail_text, item_text, items_text, item_drawn, items_drawn}
use Rattle.newick_rules.specs.Writings.{text, drawn, Right}
use Rattle.newick_rules.specs.Exporting.{plain, plain_parts}
use Rattle.newick_rules.proofs.Bytes.{no_blanks, no_trail}

-- one or more bytes of a name
unfoldable pub is_word : List ℕ → Bool
is_word x = leb 1 (length x) && all_in name_byte x

word_of : (x : List ℕ) → is_word x ≡ true → Word name_byte
unfolding is_word
word_of x h =
    let q = and_both (leb 1 (length x)) (all_in name_byte x) h in
    record { bytes = x; passed = q.1; some = leb-true 1 (length x) q.0 }

mutual
  unfolding plain item_text item_drawn trail_text names_in word_of all_in

  plain_item :
      (d : Drawing) → all_in is_word (names_in d) ≡ true → (i : Item) × (item_text i ≡ plain d) × (item_drawn i ≡ d)
  plain_item (name x) h = (word (word_of x (and_both (is_word x) true h).0), refl, refl)
  plain_item (bracket p) h = let r = plain_items p h in (group r.0, rw r.1, rw r.2)

  plain_items :
      (p : Parts) → all_in is_word (names_in_parts p) ≡ true
      → (l : Items) × (items_text l ≡ plain_parts p) × (items_drawn l ≡ p)
  plain_items (one d) h =
      let r = plain_item d h in
      (first no_blanks r.0 no_trail, rw (append-nil (item_text r.0), r.1), rw r.2)
  plain_items (more p d) h =
      let q = every_both is_word (names_in_parts p) (names_in d) h in
      let r = plain_items p q.0 in
      let e = plain_item d q.1 in
      (next r.0 no_blanks e.0 no_trail, rw (append-nil (item_text e.0), r.1, e.1), rw (r.2, e.2))

pub plain_right :
    (limit : ℕ) (p : Parts) → all_in is_word (names_in_parts p) ≡ true → nesting (bracket p) ≤ limit
    → Right limit (plain (bracket p) ++ (semicolon ∷ [])) (bracket p)
unfolding text drawn item_text item_drawn trail_text plain
plain_right limit p h n =
    let r = plain_items p h in
    record {
      writing = record { before = no_blanks; top = r.0; trail = no_trail; after = no_blanks };
      has_text = rw r.1;
      draws = rw r.2;
      nests = n;
    }
