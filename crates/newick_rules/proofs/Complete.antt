-- Every right text is read as what it draws. The reader is led over a writing piece by piece; behind each piece it
-- stands where it should, or where the next byte leads alike.
use mathlib.Core.Path.{◌≡◌, refl, ◌∙◌}
use mathlib.Core.Bool.{Bool, true, false, not}
use mathlib.Core.List.{List, [], ◌∷◌, ◌++◌, append-nil, append_assoc}
use mathlib.Core.Option.{none, some}
use Prim.Native.Nat.{ℕ, suc, ◌+◌, ◌≤◌, ◌<◌}
use native.Mathlib.Omega.{arith}
use borrow.Author.Tests.{not-true, lt-ltb}
use lib.ListN.{length}
use Rattle.base.specs.Lists.{all_in}
use Rattle.base.proofs.Bools.{never, and_both}
use Rattle.sheet_rules.specs.Sheets.{name_byte}
use Rattle.newick_rules.specs.Drawings.{Drawing, name, bracket, nesting, nesting_of_parts}
use Rattle.newick_rules.specs.Reader.{opening, closing, comma, colon, semicolon, blank, length_byte, Open}
use Rattle.newick_rules.specs.Reader.{with_part, Place, due, in_name, behind, at_length, in_length, ended, closes}
use Rattle.newick_rules.specs.Reader.{follows, inside, step, draws, read}
use Rattle.newick_rules.specs.Writings.{Blanks, Trail, bare, measured, Item, word, group, Items, first, next}
use Rattle.newick_rules.specs.Writings.{Writing, trail_text, item_text, items_text, item_drawn, items_drawn}
use Rattle.newick_rules.specs.Writings.{text, drawn, Right}
use Rattle.newick_rules.proofs.Bytes.{blank_no_name, blank_no_length, name_no_blank, name_no_opening, Ends}
use Rattle.newick_rules.proofs.Bytes.{comma_ends, closing_ends, semicolon_ends}
use Rattle.newick_rules.proofs.Running.{run, run_step, run_alike, ended_draws}

-- a text that goes on, and not with a byte that passes the test
unfoldable pub goes_on : (ℕ → Bool) → List ℕ → Bool
goes_on f [] = false
goes_on f (b ∷ t) = not (f b)

blanks_go_on :
    (f : ℕ → Bool) → ((b : ℕ) → blank b ≡ true → f b ≡ false) → (w : Blanks) (b : ℕ) (r : List ℕ) → f b ≡ false
    → goes_on f (w.bytes ++ (b ∷ r)) ≡ true
blanks_go_on f h w b r e = go w.bytes w.passed
  where
    go : (v : List ℕ) → all_in blank v ≡ true → goes_on f (v ++ (b ∷ r)) ≡ true
    go [] p = unfold goes_on in rw e
    go (c ∷ v) p = unfold goes_on all_in in rw (h c (and_both (blank c) (all_in blank v) p).0)

-- the parts before the last, and the last
parts_before : Items → Open
parts_before (first w i t) = none
parts_before (next l w i t) = some (items_drawn l)

last_part : Items → Drawing
last_part (first w i t) = item_drawn i
last_part (next l w i t) = item_drawn i

parts_are : (l : Items) → with_part (parts_before l) (last_part l) ≡ items_drawn l
unfolding with_part parts_before last_part items_drawn
parts_are (first w i t) = refl
parts_are (next l w i t) = refl

module _ (limit : ℕ) where
  -- bytes that leave the reader where it stands
  bytes_stay :
      (P : Place) (f : ℕ → Bool) → ((b : ℕ) → f b ≡ true → step limit P b ≡ some P) → (w : List ℕ) → all_in f w ≡ true
      → (r : List ℕ) → run limit P (w ++ r) ≡ run limit P r
  unfolding all_in
  bytes_stay P f h [] p r = refl
  bytes_stay P f h (b ∷ w) p r =
      let q = and_both (f b) (all_in f w) p in
      run_step limit P P b (w ++ r) (h b q.0) ∙ bytes_stay P f h w q.1 r

  blanks_due : (s : List Open) (w : Blanks) (r : List ℕ) → run limit (due s) (w.bytes ++ r) ≡ run limit (due s) r
  unfolding step
  blanks_due s w r = bytes_stay (due s) blank (λ b h. rw h) w.bytes w.passed r

  blanks_behind :
      (s : List Open) (may : Bool) (d : Drawing) (w : Blanks) (r : List ℕ)
      → run limit (behind s may d) (w.bytes ++ r) ≡ run limit (behind s may d) r
  unfolding step follows
  blanks_behind s may d w r = bytes_stay (behind s may d) blank (λ b h. rw h) w.bytes w.passed r

  blanks_ended : (d : Drawing) (w : Blanks) → run limit (ended d) w.bytes ≡ some (ended d)
  unfolding step run
  blanks_ended d w = rw (append-nil w.bytes) at (bytes_stay (ended d) blank (λ b h. rw h) w.bytes w.passed [])

  bytes_in_length :
      (s : List Open) (d : Drawing) (l : List ℕ) → all_in length_byte l ≡ true → (r : List ℕ)
      → run limit (in_length s d) (l ++ r) ≡ run limit (in_length s d) r
  unfolding step
  bytes_in_length s d l p r = bytes_stay (in_length s d) length_byte (λ b h. rw h) l p r

  -- a name
  bytes_in_name :
      (s : List Open) (x y : List ℕ) → all_in name_byte y ≡ true → (r : List ℕ)
      → run limit (in_name s x) (y ++ r) ≡ run limit (in_name s (x ++ y)) r
  unfolding step all_in
  bytes_in_name s x [] p r = rw (append-nil x)
  bytes_in_name s x (b ∷ y) p r =
      let q = and_both (name_byte b) (all_in name_byte y) p in
      run_step limit (in_name s x) (in_name s (x ++ (b ∷ []))) b (y ++ r) (rw q.0)
      ∙ bytes_in_name s (x ++ (b ∷ [])) y q.1 r
      ∙ rw (append_assoc x (b ∷ []) y)

  pub name_over :
      (s : List Open) (x : List ℕ) (r : List ℕ) → goes_on name_byte r ≡ true
      → run limit (in_name s x) r ≡ run limit (behind s true (name x)) r
  unfolding goes_on step
  name_over s x [] h = absurd (never h refl)
  name_over s x (b ∷ r) h = run_alike limit (in_name s x) (behind s true (name x)) b r (rw (not-true (name_byte b) h))

  word_read :
      (o : Open) (s : List Open) (x : List ℕ) → all_in name_byte x ≡ true → 0 < length x → (r : List ℕ)
      → goes_on name_byte r ≡ true
      → run limit (due (o ∷ s)) (x ++ r) ≡ run limit (behind (o ∷ s) true (name x)) r
  unfolding step all_in inside
  word_read o s [] p l r h = absurd (omega arith)
  word_read o s (b ∷ x) p l r h =
      let q = and_both (name_byte b) (all_in name_byte x) p in
      run_step limit (due (o ∷ s)) (in_name (o ∷ s) (b ∷ [])) b (x ++ r)
      (rw (name_no_blank b q.0, name_no_opening b q.0, q.0))
      ∙ bytes_in_name (o ∷ s) (b ∷ []) x q.1 r
      ∙ name_over (o ∷ s) (b ∷ x) r h

  -- a trail
  pub length_over :
      (s : List Open) (d : Drawing) (r : List ℕ) → goes_on length_byte r ≡ true
      → run limit (in_length s d) r ≡ run limit (behind s false d) r
  unfolding goes_on step
  length_over s d [] h = absurd (never h refl)
  length_over s d (b ∷ r) h = run_alike limit (in_length s d) (behind s false d) b r (rw (not-true (length_byte b) h))

  length_read :
      (s : List Open) (d : Drawing) (l : List ℕ) → all_in length_byte l ≡ true → 0 < length l → (r : List ℕ)
      → goes_on length_byte r ≡ true
      → run limit (behind s true d) (colon ∷ (l ++ r)) ≡ run limit (behind s false d) r
  unfolding step follows all_in blank
  length_read s d [] p z r h = absurd (omega arith)
  length_read s d (b ∷ l) p z r h =
      let q = and_both (length_byte b) (all_in length_byte l) p in
      run_step limit (behind s true d) (at_length s d) colon (b ∷ (l ++ r)) refl
      ∙ run_step limit (at_length s d) (in_length s d) b (l ++ r) (rw q.0)
      ∙ bytes_in_length s d l q.1 r
      ∙ length_over s d r h

  trail_read :
      (s : List Open) (d : Drawing) (t : Trail) (b : ℕ) → Ends b → (r : List ℕ)
      → run limit (behind s true d) (trail_text t ++ (b ∷ r)) ≡ run limit (behind s true d) (b ∷ r)
  unfolding trail_text step follows
  trail_read s d (bare w) b e r = blanks_behind s true d w (b ∷ r)
  trail_read s d (measured w l v) b e r =
      simp append_assoc
      (blanks_behind s true d w (colon ∷ (l.bytes ++ (v.bytes ++ (b ∷ r))))
      ∙ length_read s d l.bytes l.passed l.some (v.bytes ++ (b ∷ r))
      (blanks_go_on length_byte blank_no_length v b r e.no_length)
      ∙ blanks_behind s false d v (b ∷ r)
      ∙ run_alike limit (behind s false d) (behind s true d) b r (rw (e.no_blank, e.no_colon)))

  trail_goes_on : (t : Trail) (b : ℕ) → Ends b → (r : List ℕ) → goes_on name_byte (trail_text t ++ (b ∷ r)) ≡ true
  unfolding trail_text
  trail_goes_on (bare w) b e r = blanks_go_on name_byte blank_no_name w b r e.no_name
  trail_goes_on (measured w l v) b e r =
      simp append_assoc
      (blanks_go_on name_byte blank_no_name w colon (l.bytes ++ (v.bytes ++ (b ∷ r))) (unfold name_byte in refl))

  -- a bracket, once the reader was led over what stands in it
  group_read :
      (s : List Open) (l : Items) (r : List ℕ) → length s < limit
      → run limit (due (none ∷ s)) (items_text l ++ (closing ∷ r))
      ≡ run limit (behind (parts_before l ∷ s) true (last_part l)) (closing ∷ r)
      → run limit (due s) (item_text (group l) ++ r) ≡ run limit (behind s true (bracket (items_drawn l))) r
  unfolding item_text step follows closes blank
  group_read s l r n h =
      simp append_assoc
      (run_step limit (due s) (due (none ∷ s)) opening (items_text l ++ (closing ∷ r)) (rw (lt-ltb (length s) limit n))
      ∙ h
      ∙ run_step limit (behind (parts_before l ∷ s) true (last_part l))
      (behind s true (bracket (with_part (parts_before l) (last_part l)))) closing r refl
      ∙ rw (parts_are l))

  mutual
    unfolding item_text item_drawn nesting parts_before last_part step follows closes blank

    item_read :
        (i : Item) (o : Open) (s : List Open) (r : List ℕ) → goes_on name_byte r ≡ true
        → suc (length s) + nesting (item_drawn i) ≤ limit
        → run limit (due (o ∷ s)) (item_text i ++ r) ≡ run limit (behind (o ∷ s) true (item_drawn i)) r
    item_read (word x) o s r h n = word_read o s x.bytes x.passed x.some r h
    item_read (group l) o s r h n =
        group_read (o ∷ s) l r (omega arith) (items_read l (o ∷ s) closing closing_ends r (omega arith))

    items_read :
        (l : Items) (s : List Open) (b : ℕ) → Ends b → (r : List ℕ)
        → suc (length s) + nesting_of_parts (items_drawn l) ≤ limit
        → run limit (due (none ∷ s)) (items_text l ++ (b ∷ r))
        ≡ run limit (behind (parts_before l ∷ s) true (last_part l)) (b ∷ r)
    items_read (first w i t) s b e r n =
        let r' = trail_text t ++ (b ∷ r) in
        simp append_assoc
        (blanks_due (none ∷ s) w (item_text i ++ r')
        ∙ item_read i none s r' (trail_goes_on t b e r) (omega arith)
        ∙ trail_read (none ∷ s) (item_drawn i) t b e r)
    items_read (next l w i t) s b e r n =
        let r' = trail_text t ++ (b ∷ r) in
        let o = some (items_drawn l) in
        simp append_assoc
        (items_read l s comma comma_ends (w.bytes ++ (item_text i ++ r')) (omega arith)
        ∙ run_step limit (behind (parts_before l ∷ s) true (last_part l))
        (due (some (with_part (parts_before l) (last_part l)) ∷ s)) comma (w.bytes ++ (item_text i ++ r')) refl
        ∙ rw (parts_are l)
        (blanks_due (o ∷ s) w (item_text i ++ r')
        ∙ item_read i o s r' (trail_goes_on t b e r) (omega arith)
        ∙ trail_read (o ∷ s) (item_drawn i) t b e r))

  -- a whole text
  writing_read : (W : Writing) → nesting (drawn W) ≤ limit → run limit (due []) (text W) ≡ some (ended (drawn W))
  unfolding text drawn item_drawn nesting step follows closes blank
  writing_read W n =
      let l = W.top in
      let d = item_drawn (group l) in
      let r = semicolon ∷ W.after.bytes in
      let r' = trail_text W.trail ++ r in
      blanks_due [] W.before (item_text (group l) ++ r')
      ∙ group_read [] l r' (omega arith) (items_read l [] closing closing_ends r' (omega arith))
      ∙ trail_read [] d W.trail semicolon semicolon_ends W.after.bytes
      ∙ run_step limit (behind [] true d) (ended d) semicolon W.after.bytes refl
      ∙ blanks_ended d W.after

  pub complete : (t : List ℕ) (d : Drawing) → Right limit t d → read limit t ≡ draws d
  unfolding read
  complete t d R =
      let n = rw (← R.draws) at R.nests in
      rw (← R.has_text, ← R.draws) (ended_draws limit (due []) 0 (text W) (drawn W) (writing_read W n))
    where
      W : Writing
      W = R.writing
