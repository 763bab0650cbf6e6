-- Writings: the right texts, with their blanks and lengths, told without the reader. A writing is right by
-- construction, and has a text and a drawing.
use Rattle.std.specs.Prelude.{◌≡◌, Bool, true, List, [], ◌∷◌, ◌++◌, ℕ, suc, ◌≤◌, ◌<◌, length, take}
use Rattle.base.specs.Lists.{all_in}
use Rattle.sheet_rules.specs.Sheets.{name_byte}
use Rattle.newick_rules.specs.Drawings.{Drawing, name, bracket, Parts, one, more, nesting}
use Rattle.newick_rules.specs.Reader.{opening, closing, comma, colon, semicolon, blank, length_byte}

-- bytes that all pass a test
pub record Run (f : ℕ → Bool) : Type 0 where
  pub bytes : List ℕ
  pub passed : all_in f bytes ≡ true

-- one or more of them
pub record Word (f : ℕ → Bool) : Type 0 where
  pub bytes : List ℕ
  pub passed : all_in f bytes ≡ true
  pub some : 0 < length bytes

abbrev pub Blanks : Type 0
Blanks = Run blank

-- what may stand behind a name or a closing bracket: blanks; or blanks, a colon and a length, blanks
pub data Trail : Type 0 where
  bare : Blanks → Trail
  measured : Blanks → Word length_byte → Blanks → Trail

-- a drawing as it is written; each part has blanks before it and a trail behind it
mutual
  pub data Item : Type 0 where
    word : Word name_byte → Item
    group : Items → Item

  pub data Items : Type 0 where
    first : Blanks → Item → Trail → Items
    next : Items → Blanks → Item → Trail → Items

-- a whole: blanks, the top's bracket and its trail, a semicolon, blanks
pub record Writing : Type 0 where
  pub before : Blanks
  pub top : Items
  pub trail : Trail
  pub after : Blanks

unfoldable pub trail_text : Trail → List ℕ
trail_text (bare w) = w.bytes
trail_text (measured w l v) = w.bytes ++ (colon ∷ (l.bytes ++ v.bytes))

unfoldable mutual
  pub item_text : Item → List ℕ
  item_text (word x) = x.bytes
  item_text (group l) = opening ∷ (items_text l ++ (closing ∷ []))

  pub items_text : Items → List ℕ
  items_text (first w i t) = w.bytes ++ (item_text i ++ trail_text t)
  items_text (next l w i t) = items_text l ++ (comma ∷ (w.bytes ++ (item_text i ++ trail_text t)))

unfoldable mutual
  pub item_drawn : Item → Drawing
  item_drawn (word x) = name x.bytes
  item_drawn (group l) = bracket (items_drawn l)

  pub items_drawn : Items → Parts
  items_drawn (first w i t) = one (item_drawn i)
  items_drawn (next l w i t) = more (items_drawn l) (item_drawn i)

-- the text of a writing, and what it draws
unfoldable pub text : Writing → List ℕ
text W = W.before.bytes ++ (item_text (group W.top) ++ (trail_text W.trail ++ (semicolon ∷ W.after.bytes)))

unfoldable pub drawn : Writing → Drawing
drawn W = item_drawn (group W.top)

-- a right text of a drawing: some writing of it, nested no deeper than the limit, has this text
pub record Right (limit : ℕ) (t : List ℕ) (d : Drawing) : Type 0 where
  pub writing : Writing
  pub has_text : text writing ≡ t
  pub draws : drawn writing ≡ d
  pub nests : nesting d ≤ limit

-- k is where a text breaks: its first k bytes begin a right text; with the next byte, if there is one, they begin none;
-- and the text itself is none, though it may stop early
pub record BreaksAt (limit : ℕ) (t : List ℕ) (k : ℕ) : Type 0 where
  pub within : k ≤ length t
  pub begins : (rest : List ℕ) × (d : Drawing) × Right limit (take k t ++ rest) d
  pub no_more : k < length t → (rest : List ℕ) (d : Drawing) → Right limit (take (suc k) t ++ rest) d → ⊥
  pub no_whole : (d : Drawing) → Right limit t d → ⊥
