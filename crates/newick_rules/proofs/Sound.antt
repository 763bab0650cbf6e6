-- What is read is a right text: at every place, the bytes so far are those of a writing cut off there.
use mathlib.Core.Path.{◌≡◌, refl, ap, sym, ◌∙◌}
use mathlib.Core.Bool.{Bool, true, false, ◌&&◌}
use mathlib.Core.List.{List, [], ◌∷◌, ◌++◌, append-nil, append_assoc}
use mathlib.Core.Option.{none, some}
use Prim.Native.Nat.{ℕ, ◌<◌}
use native.Mathlib.Omega.{arith}
use borrow.Author.Tests.{eqb-true}
use lib.Dec.{ltb, eqb}
use lib.ListN.{length, length-append}
use Rattle.base.specs.Lists.{all_in}
use Rattle.base.proofs.Bools.{never, and_both, and_is}
use Rattle.base.proofs.Lists.{every_append}
use Rattle.sheet_rules.specs.Sheets.{name_byte}
use Rattle.newick_rules.specs.Drawings.{Drawing, name, bracket, more}
use Rattle.newick_rules.specs.Reader.{opening, closing, comma, colon, semicolon, blank, length_byte, Open}
use Rattle.newick_rules.specs.Reader.{with_part, Place, due, in_name, behind, at_length, in_length, ended, closes}
use Rattle.newick_rules.specs.Reader.{follows, inside, step, draws, read}
use Rattle.newick_rules.specs.Writings.{Run, Word, Blanks, Trail, bare, measured, Item, word, group, Items, first}
use Rattle.newick_rules.specs.Writings.{next, Writing, trail_text, item_text, items_text, item_drawn, items_drawn}
use Rattle.newick_rules.specs.Writings.{text, drawn, Right}
use Rattle.newick_rules.proofs.Running.{If, if_cond, run, draws_ended, run_keeps}
use Rattle.newick_rules.proofs.Bytes.{no_blanks, no_trail}
use Rattle.newick_rules.proofs.Depths.{run_fits}

-- what is written in an open bracket: nothing, or its parts and a comma
abbrev Begun : Open → List ℕ → Type 0
Begun none r = r ≡ []
Begun (some p) r = (l : Items) × (items_drawn l ≡ p) × (r ≡ items_text l ++ (comma ∷ []))

-- what is written of the open brackets, up to where an item is due
abbrev Opened : List Open → List ℕ → Type 0
Opened [] t = t ≡ []
Opened (o ∷ s) t =
    (before r : List ℕ) × (w : Blanks) × Opened s before × Begun o r × (t ≡ before ++ (w.bytes ++ (opening ∷ r)))

-- an item within these brackets; where none is open it is the top, a bracket
abbrev Placed : List Open → Item → Type 0
Placed [] (word x) = ⊥
Placed [] (group l) = Unit {0}
Placed (o ∷ s) i = Unit {0}

-- the bytes t: open brackets, blanks, a written item that draws d, and r
record Behind (s : List Open) (d : Drawing) (r t : List ℕ) : Type 0 where
  before : List ℕ
  blanks : Blanks
  item : Item
  opened : Opened s before
  placed : Placed s item
  draws : item_drawn item ≡ d
  bytes : t ≡ before ++ (blanks.bytes ++ (item_text item ++ r))

-- a trail has no length yet
is_bare : Trail → Bool
is_bare (bare w) = true
is_bare (measured w l v) = false

-- the bytes t lead to this place
abbrev Wrote : List ℕ → Place → Type 0
Wrote t (due s) = (before : List ℕ) × (w : Blanks) × Opened s before × (t ≡ before ++ w.bytes)
Wrote t (in_name s x) =
    (before : List ℕ) × (w : Blanks) × Opened s before × (inside s ≡ true)
    × (all_in name_byte x ≡ true) × (0 < length x) × (t ≡ before ++ (w.bytes ++ x))
Wrote t (behind s may d) = (v : Trail) × (is_bare v ≡ may) × Behind s d (trail_text v) t
Wrote t (at_length s d) = (v : Blanks) × Behind s d (v.bytes ++ (colon ∷ [])) t
Wrote t (in_length s d) = (v : Blanks) × (l : Word length_byte) × Behind s d (v.bytes ++ (colon ∷ l.bytes)) t
Wrote t (ended d) = (W : Writing) × (text W ≡ t) × (drawn W ≡ d)

-- one byte more
one_passes : (f : ℕ → Bool) (b : ℕ) → f b ≡ true → all_in f (b ∷ []) ≡ true
unfolding all_in
one_passes f b h = and_is (f b) true h refl

run_more : {f : ℕ → Bool} (w : Run f) (b : ℕ) → f b ≡ true → Run f
run_more {f} w b h = record {
  bytes = w.bytes ++ (b ∷ []);
  passed = every_append f w.bytes (b ∷ []) w.passed (one_passes f b h);
}

trail_more : Trail → (b : ℕ) → blank b ≡ true → Trail
trail_more (bare w) b h = bare (run_more w b h)
trail_more (measured w l v) b h = measured w l (run_more v b h)

trail_more_text : (v : Trail) (b : ℕ) (h : blank b ≡ true) → trail_text (trail_more v b h) ≡ trail_text v ++ (b ∷ [])
unfolding trail_text trail_more run_more
trail_more_text (bare w) b h = refl
trail_more_text (measured w l v) b h = simp append_assoc

trail_more_bare : (v : Trail) (b : ℕ) (h : blank b ≡ true) → is_bare (trail_more v b h) ≡ is_bare v
unfolding is_bare trail_more
trail_more_bare (bare w) b h = refl
trail_more_bare (measured w l v) b h = refl

-- one byte behind an item
behind_more :
    (s : List Open) (d : Drawing) (r r' t : List ℕ) (b : ℕ) → Behind s d r t → r' ≡ r ++ (b ∷ [])
    → Behind s d r' (t ++ (b ∷ []))
behind_more s d r r' t b B e = record {
  before = B.before;
  blanks = B.blanks;
  item = B.item;
  opened = B.opened;
  placed = B.placed;
  draws = B.draws;
  bytes = rw (B.bytes, e) (simp append_assoc);
}

placed_group : (s : List Open) (l : Items) → Placed s (group l)
placed_group [] l = tt
placed_group (o ∷ s) l = tt

inside_placed : (s : List Open) (i : Item) → inside s ≡ true → Placed s i
unfolding inside
inside_placed [] i h = absurd (never h refl)
inside_placed (o ∷ s) i h = tt

-- an open bracket's parts with one item more
with_item :
    (o : Open) (r : List ℕ) → Begun o r → (w : Blanks) (i : Item) (v : Trail)
    → (l : Items) × (items_drawn l ≡ with_part o (item_drawn i))
    × (items_text l ≡ r ++ (w.bytes ++ (item_text i ++ trail_text v)))
unfolding items_drawn items_text with_part
with_item none r e w i v = (first w i v, refl, rw e)
with_item (some p) r e w i v = (next e.0 w i v, rw e.1, rw e.2 (simp append_assoc))

-- the semicolon behind the top
top_wrote :
    (t before : List ℕ) (w : Blanks) (i : Item) (v : Trail) → Placed [] i → before ≡ []
    → t ≡ before ++ (w.bytes ++ (item_text i ++ trail_text v)) → Wrote (t ++ (semicolon ∷ [])) (ended (item_drawn i))
unfolding text drawn
top_wrote t before w (word x) v p e h = absurd p
top_wrote t before w (group l) v p e h =
    (record { before = w; top = l; trail = v; after = no_blanks }, rw (h, e) (simp append_assoc), refl)

regrouped :
    (t before before' w r l y : List ℕ) → t ≡ before ++ y → before ≡ before' ++ (w ++ (opening ∷ r)) → l ≡ r ++ y
    → t ≡ before' ++ (w ++ (opening ∷ l))
regrouped t before before' w r l y p q e = rw (p, q, e) (simp append_assoc)

-- a comma or a closing bracket behind an item
inner_wrote :
    (t : List ℕ) (o : Open) (s : List Open) (d : Drawing) (v : Trail) → Behind (o ∷ s) d (trail_text v) t
    → Wrote (t ++ (comma ∷ [])) (due (some (with_part o d) ∷ s))
    × Wrote (t ++ (closing ∷ [])) (behind s true (bracket (with_part o d)))
unfolding is_bare item_text item_drawn trail_text
inner_wrote t o s d v B = (
  (t ++ (comma ∷ []), no_blanks, (before, items_text l ++ (comma ∷ []), w, O.3, (l, parts, refl), more), end),
  (
    no_trail,
    refl,
    record {
      before = before;
      blanks = w;
      item = group l;
      opened = O.3;
      placed = placed_group s l;
      draws = rw parts;
      bytes = ap (λ u. u ++ (closing ∷ [])) whole ∙ simp (append_assoc, append-nil);
    },
  ),
)
  where
    O : Opened (o ∷ s) B.before
    O = B.opened

    before : List ℕ
    before = O.0

    w : Blanks
    w = O.2

    p :
        (l : Items) × (items_drawn l ≡ with_part o (item_drawn B.item))
        × (items_text l ≡ O.1 ++ (B.blanks.bytes ++ (item_text B.item ++ trail_text v)))
    p = with_item o O.1 O.4 B.blanks B.item v

    l : Items
    l = p.0

    parts : items_drawn l ≡ with_part o d
    parts = rw B.draws at p.1

    whole : t ≡ before ++ (w.bytes ++ (opening ∷ items_text l))
    whole = regrouped t B.before before w.bytes O.1 (items_text l) _ B.bytes O.5 p.2

    more : t ++ (comma ∷ []) ≡ before ++ (w.bytes ++ (opening ∷ (items_text l ++ (comma ∷ []))))
    more = ap (λ u. u ++ (comma ∷ [])) whole ∙ simp append_assoc

    end : t ++ (comma ∷ []) ≡ (t ++ (comma ∷ [])) ++ []
    end = sym (append-nil (t ++ (comma ∷ [])))

closes_wrote :
    (t : List ℕ) (s : List Open) (d : Drawing) (b : ℕ) (v : Trail) → Behind s d (trail_text v) t
    → If (Wrote (t ++ (b ∷ []))) (closes s d b)
unfolding closes
closes_wrote t [] d b v B =
    if_cond (Wrote (t ++ (b ∷ []))) (eqb b semicolon) (ended d) none
    (λ h. rw (eqb-true b semicolon h, ← B.draws)
    (top_wrote t B.before B.blanks B.item v B.placed B.opened B.bytes)) tt
closes_wrote t (o ∷ s) d b v B =
    let r = inner_wrote t o s d v B in
    if_cond (Wrote (t ++ (b ∷ []))) (eqb b comma) (due (some (with_part o d) ∷ s)) _
    (λ h. rw (eqb-true b comma h) r.0)
    (if_cond (Wrote (t ++ (b ∷ []))) (eqb b closing) (behind s true (bracket (with_part o d))) none
    (λ h. rw (eqb-true b closing h) r.1) tt)

-- a colon behind an item whose trail has no length yet
colon_wrote :
    (t : List ℕ) (s : List Open) (d : Drawing) (v : Trail) → is_bare v ≡ true → Behind s d (trail_text v) t
    → Wrote (t ++ (colon ∷ [])) (at_length s d)
unfolding is_bare trail_text
colon_wrote t s d (bare w) e B = (w, behind_more s d w.bytes (w.bytes ++ (colon ∷ [])) t colon B refl)
colon_wrote t s d (measured w l v) e B = absurd (never e refl)

follows_wrote :
    (t : List ℕ) (s : List Open) (may : Bool) (d : Drawing) (b : ℕ) → Wrote t (behind s may d)
    → If (Wrote (t ++ (b ∷ []))) (follows s may d b)
unfolding follows
follows_wrote t s may d b w =
    let F = Wrote (t ++ (b ∷ [])) in
    let v = w.0 in
    if_cond F (blank b) (behind s may d) _
    (λ h. (
      trail_more v b h,
      trail_more_bare v b h ∙ w.1,
      behind_more s d (trail_text v) (trail_text (trail_more v b h)) t b w.2 (trail_more_text v b h),
    ))
    (if_cond F (may && eqb b colon) (at_length s d) (closes s d b)
    (λ h.
    let q = and_both may (eqb b colon) h in
    rw (eqb-true b colon q.1) (colon_wrote t s d v (w.1 ∙ q.0) w.2))
    (closes_wrote t s d b v w.2))

-- a name, or an item with its length, has no trail yet, or one that may still grow
name_over : (t : List ℕ) (s : List Open) (x : List ℕ) → Wrote t (in_name s x) → Wrote t (behind s true (name x))
unfolding is_bare item_text item_drawn trail_text
name_over t s x w = (
  no_trail,
  refl,
  record {
    before = w.0;
    blanks = w.1;
    item = word (record { bytes = x; passed = w.4; some = w.5 });
    opened = w.2;
    placed = inside_placed s _ w.3;
    draws = refl;
    bytes = w.6 ∙ simp append-nil;
  },
)

length_over : (t : List ℕ) (s : List Open) (d : Drawing) → Wrote t (in_length s d) → Wrote t (behind s false d)
unfolding is_bare trail_text
length_over t s d w = (
  measured w.0 w.1 no_blanks,
  refl,
  rw (append-nil w.1.bytes) w.2,
)

due_more : (t before w : List ℕ) (b : ℕ) → t ≡ before ++ w → t ++ (b ∷ []) ≡ before ++ (w ++ (b ∷ []))
due_more t before w b e = ap (λ u. u ++ (b ∷ [])) e ∙ append_assoc before w (b ∷ [])

opening_wrote : (t : List ℕ) (s : List Open) → Wrote t (due s) → Wrote (t ++ (opening ∷ [])) (due (none ∷ s))
opening_wrote t s w = (
  t ++ (opening ∷ []),
  no_blanks,
  (w.0, [], w.1, w.2, refl, due_more t w.0 w.1.bytes opening w.3),
  sym (append-nil (t ++ (opening ∷ []))),
)

word_of : (b : ℕ) → length_byte b ≡ true → Word length_byte
word_of b h = record { bytes = b ∷ []; passed = one_passes length_byte b h; some = omega arith }

word_more : Word length_byte → (b : ℕ) → length_byte b ≡ true → Word length_byte
word_more l b h = record {
  bytes = l.bytes ++ (b ∷ []);
  passed = every_append length_byte l.bytes (b ∷ []) l.passed (one_passes length_byte b h);
  some = rw (length-append l.bytes (b ∷ [])) (omega (arith, l.some));
}

ended_more : (t : List ℕ) (d : Drawing) (b : ℕ) → Wrote t (ended d) → blank b ≡ true → Wrote (t ++ (b ∷ [])) (ended d)
unfolding text drawn run_more
ended_more t d b w h = (
  record { before = W.before; top = W.top; trail = W.trail; after = run_more W.after b h },
  sym (ap (λ u. u ++ (b ∷ [])) (sym w.1) ∙ simp append_assoc),
  w.2,
)
  where
    W : Writing
    W = w.0

module _ (limit : ℕ) where
  step_wrote : (t : List ℕ) (P : Place) (b : ℕ) → Wrote t P → If (Wrote (t ++ (b ∷ []))) (step limit P b)
  unfolding step run_more
  step_wrote t (due s) b w =
      let F = Wrote (t ++ (b ∷ [])) in
      if_cond F (blank b) (due s) _ (λ h. (w.0, run_more w.1 b h, w.2, due_more t w.0 w.1.bytes b w.3))
      (if_cond F (eqb b opening && ltb (length s) limit) (due (none ∷ s)) _
      (λ h.
      let e = eqb-true b opening (and_both (eqb b opening) (ltb (length s) limit) h).0 in
      rw e (opening_wrote t s w))
      (if_cond F (name_byte b && inside s) (in_name s (b ∷ [])) none
      (λ h.
      let q = and_both (name_byte b) (inside s) h in
      let p = one_passes name_byte b q.0 in
      (w.0, w.1, w.2, q.1, p, omega arith, due_more t w.0 w.1.bytes b w.3)) tt))
  step_wrote t (in_name s x) b w =
      if_cond (Wrote (t ++ (b ∷ []))) (name_byte b) (in_name s (x ++ (b ∷ []))) (follows s true (name x) b)
      (λ h. (
        w.0,
        w.1,
        w.2,
        w.3,
        every_append name_byte x (b ∷ []) w.4 (one_passes name_byte b h),
        rw (length-append x (b ∷ [])) (omega (arith, w.5)),
        ap (λ u. u ++ (b ∷ [])) w.6 ∙ simp append_assoc,
      ))
      (follows_wrote t s true (name x) b (name_over t s x w))
  step_wrote t (behind s may d) b w = follows_wrote t s may d b w
  step_wrote t (at_length s d) b w =
      if_cond (Wrote (t ++ (b ∷ []))) (length_byte b) (in_length s d) none
      (λ h. (w.0, word_of b h, behind_more s d _ _ t b w.1 (unfold word_of in simp append_assoc))) tt
  step_wrote t (in_length s d) b w =
      if_cond (Wrote (t ++ (b ∷ []))) (length_byte b) (in_length s d) (follows s false d b)
      (λ h. (w.0, word_more w.1 b h, behind_more s d _ _ t b w.2 (unfold word_more in simp append_assoc)))
      (follows_wrote t s false d b (length_over t s d w))
  step_wrote t (ended d) b w = if_cond (Wrote (t ++ (b ∷ []))) (blank b) (ended d) none (λ h. ended_more t d b w h) tt

  -- what is read is a right text
  pub sound : (t : List ℕ) (d : Drawing) → read limit t ≡ draws d → Right limit t d
  unfolding read
  sound t d h = record {
    writing = w.0;
    has_text = w.1;
    draws = w.2;
    nests = run_fits limit (due []) (ended d) t tt led;
  }
    where
      led : run limit (due []) t ≡ some (ended d)
      led = draws_ended limit (due []) 0 t d h

      w : Wrote t (ended d)
      w = run_keeps limit Wrote step_wrote (due []) (ended d) [] t ([], no_blanks, refl, refl) led
