-- The loop over the fields: what has been reached at each turn, a turn, and the two ways out.
use Rattle.std.specs.Prelude
use Rattle.std.proofs.Common.{◌≡◌, ℕ, zero, suc, ◌+◌, ◌≤◌, ◌<◌, List, [], ◌∷◌, length, Some, None, Ok, Err, refl, sym, ap, ◌∙◌, arith, length-append, lt-ltb, le-ltb}
use Rattle.book.specs.declared.Counts.{Counts}
use Rattle.book.specs.declared.Kind.{Kind}
use Rattle.book.specs.declared.Loaded.{Loaded}
use Rattle.book.specs.declared.Refusal.{Refusal}
use Rattle.book.specs.Book.{Book, all_paths, blank}
use Rattle.book.proofs.BookLaws.{blank-well_formed, field-passed, field_extends}
use Rattle.book.specs.Reading.{accepted, refused, kind_at, end_at, arc_at, and_then, extended, field, fields, reading}
use Rattle.book.specs.Tables.{Blank, IsLoaded, LoadedAs, entered, owners_from, entries}
use Rattle.book.proofs.LoadedLaws.{leaves-accepted, leaves-refused}

-- a turn of the definition
fields-turn : (turns : ℕ) (s : List ℕ) (b : Book) (at : ℕ) → at < length s → length s ≤ at + turns
    → (t : ℕ) × (suc t ≡ turns) × (fields turns s b at ≡ and_then (field s b at) (λ b'. fields t s b' (end_at s at)))
unfolding fields
fields-turn zero s b at more enough = absurd (omega arith)
fields-turn (suc t) s b at more enough = (t, refl, rw (lt-ltb at (length s) more))

fields-end : (turns : ℕ) (s : List ℕ) (b : Book) (at : ℕ) → length s ≤ at → fields turns s b at ≡ accepted b
unfolding fields
fields-end zero s b at done = refl
fields-end (suc t) s b at done = rw (le-ltb at (length s) done)

one-arc-more : (k : Prelude.Option Kind) (s : List ℕ) (b : Book) (at : ℕ) → length (extended k s b at).arcs ≤ length b.arcs + 1
one-arc-more (Some Kind.VertexCount) s b at = omega arith
one-arc-more (Some Kind.Arc) s b at = omega (arith, length-append b.arcs (arc_at s at ∷ []))
one-arc-more (Some Kind.RuleSet) s b at = omega arith
one-arc-more (Some Kind.Path) s b at = omega arith
one-arc-more None s b at = omega arith

-- what has been read up to byte `at`, which l stands for
pub record Reached (s : List ℕ) (at : ℕ) (l : Loaded) : Type 0 where
  pub book : Book
  pub turns : ℕ
  pub tables : IsLoaded book l
  pub rest : fields turns s book at ≡ reading s
  pub enough : length s ≤ at + turns
  pub few-arcs : length book.arcs ≤ at

pub started : (s : List ℕ) (l : Loaded) → 1 ≤ length s → Blank l → Reached s 0 l
unfolding reading all_paths entered owners_from entries
started [] l some_byte clean = absurd (omega arith)
started (x ∷ s) l some_byte clean =
    record {
      book = blank;
      turns = length (x ∷ s);
      tables =
          record {
            counted = clean.nothing_counted;
            graph = record { well = blank-well_formed; vertices_are = ap (λ (c : Counts). c.vertices) clean.nothing_counted; weights_are = clean.no_arcs };
            sets =
                record {
                  well = blank-well_formed;
                  counted = ap (λ (c : Counts). c.paths) clean.nothing_counted;
                  needs_are = clean.no_needs;
                  owners_are = clean.no_owners;
                  paths_are = clean.no_paths;
                };
          };
      rest = refl;
      enough = omega arith;
      few-arcs = omega arith;
    }

pub nothing : (s : List ℕ) → length s ≡ 0 → reading s ≡ refused (Refusal.Truncated 0)
unfolding reading
nothing [] e = refl
nothing (x ∷ s) e = absurd (omega arith)

module _ (s : List ℕ) (at : ℕ) (l : Loaded) (r : Reached s at l) where
  pub finished : length s ≤ at → LoadedAs (reading s) (Ok l)
  finished done =
      let is : reading s ≡ accepted r.book = sym r.rest ∙ fields-end r.turns s r.book at done in
      rw is r.tables

  module _ (more : at < length s) where
    pub stopped : (q : Refusal) → LoadedAs (field s r.book at) (Err q) → LoadedAs (reading s) (Err q)
    stopped q step =
        let (t, _, turn) = fields-turn r.turns s r.book at more r.enough in
        let is : reading s ≡ refused q =
        sym r.rest ∙ turn ∙ ap (λ x. and_then x (λ b'. fields t s b' (end_at s at))) (leaves-refused IsLoaded (field s r.book at) q step) in
        rw is refl

    module _ (l' : Loaded) (step : LoadedAs (field s r.book at) (Ok l')) where
      pub within : end_at s at ≤ length s
      within = let (b, is, _) = leaves-accepted IsLoaded (field s r.book at) l' step in (field-passed s r.book at b is).whole

      pub onward : (end : ℕ) → end ≡ end_at s at → Reached s end l'
      onward end is-end =
          let (b, is, tables) = leaves-accepted IsLoaded (field s r.book at) l' step in
          let (t, used, turn) = fields-turn r.turns s r.book at more r.enough in
          record {
            book = b;
            turns = t;
            tables = tables;
            rest = rw is-end (sym (turn ∙ ap (λ x. and_then x (λ b'. fields t s b' (end_at s at))) is) ∙ r.rest);
            enough = omega (arith, used, r.enough);
            few-arcs = omega (arith, ap (λ (x : Book). length x.arcs) (field_extends s r.book at b is), one-arc-more (kind_at s at) s r.book at, r.few-arcs);
          }
