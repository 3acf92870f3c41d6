-- A path more, its entry right after the others'.
use Rattle.std.proofs.Common.{refl, sym, ◌∙◌, arith}
use Rattle.std.proofs.lemmas.Slice.{put_mid-paste}
use Rattle.book.proofs.Added.{path-added}
use Rattle.book.proofs.Loaded.add_path.Goals as goal

pub returns-clause-leaves : goal.returns-clause-leaves
returns-clause-leaves c b h =
    let a = c.args in
    path-added a.self.now b h a.at a.path.now
    (sym c.are_vertices.ensures ∙ c.if-not-are_vertices.false)
    c.if-k-ge-MOST_PATHS.false
    c.requires.some_set
    c.requires.short _ (put_mid-paste _ _ _ _ _ _ c.copy_from_slice.ensures.after (omega arith) refl)
