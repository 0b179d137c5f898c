-- What is shown of a tree by the place where it stands: as a member of the tighter form, of the looser one, or alone.
use Rattle.std.proofs.Common.{◌≡◌, List, map, refl, sym, subst, inr}
use Rattle.std.specs.List.{All}
use Rattle.mt_lexer.specs.Tokens.{Lexeme}
use Rattle.mt_reader.specs.Forms.{Form, Joined, Many, Bracketed}
use Rattle.mt_show.specs.Text.{IsWritten}
use Rattle.mt_show.specs.Shown.{Places, never_bracketed, bracketed_inside, bracketed_as_member, between, bracketed}
use Rattle.mt_show.proofs.ShownForms.{Prints, Shows, Grows, separated_shows, written_bracketed}

-- At each place the tree is spelled in the form of that place.
pub record At {T : Type 0} (inner outer whole : Form T) (places : Places) (tree : T) : Type 0 where
  pub as_inner : Prints inner tree places.inner
  pub as_outer : Prints outer tree places.outer
  pub as_whole : Prints whole tree places.whole

module _ {T : Type 0} {inner outer whole : Form T} {places : Places} {tree : T} (tokens : List Lexeme) where
  -- what is as tight as can be is spelled alike at each place
  pub at_never : places ≡ never_bracketed tokens → Grows inner outer → Grows outer whole → Prints inner tree tokens → At inner outer whole places tree
  at_never e g h p =
      subst (λ places. At inner outer whole places tree) (sym e)
      (record { as_inner = p; as_outer = (g tokens tree p.0, p.1); as_whole = (h tokens tree (g tokens tree p.0), p.1) })

  -- what is looser needs brackets at the first place
  pub at_inside : places ≡ bracketed_inside tokens → Grows (Bracketed whole) inner → Grows outer whole → Prints outer tree tokens → At inner outer whole places tree
  at_inside e b h p =
      subst (λ places. At inner outer whole places tree) (sym e) (record {
        as_inner = (b (bracketed tokens) tree (record { inner = tokens; brackets = refl; body = h tokens tree p.0 }), written_bracketed tokens p.1);
        as_outer = p;
        as_whole = (h tokens tree p.0, p.1);
      })

  -- and what is loosest at the first two
  pub at_member : places ≡ bracketed_as_member tokens → Grows (Bracketed whole) inner → Grows inner outer → Prints whole tree tokens → At inner outer whole places tree
  at_member e b g p =
      let closed = b (bracketed tokens) tree (record { inner = tokens; brackets = refl; body = p.0 }) in
      subst (λ places. At inner outer whole places tree) (sym e) (record {
        as_inner = (closed, written_bracketed tokens p.1);
        as_outer = (g (bracketed tokens) tree closed, written_bracketed tokens p.1);
        as_whole = p;
      })

module _ {T : Type 0} {inner outer whole more_inner more_outer more_whole : Form T} {places : Places} {tree : T} where
  -- forms that spell more
  pub at_grows : At inner outer whole places tree → Grows inner more_inner → Grows outer more_outer → Grows whole more_whole → At more_inner more_outer more_whole places tree
  at_grows a f g h = record {
    as_inner = (f places.inner tree a.as_inner.0, a.as_inner.1);
    as_outer = (g places.outer tree a.as_outer.0, a.as_outer.1);
    as_whole = (h places.whole tree a.as_whole.0, a.as_whole.1);
  }

module _ {T : Type 0} {form : Form T} (shown : T → List Lexeme) (shows : Shows form shown) (by : Lexeme) (join : List T → T) (written : IsWritten by) where
  -- members that are joined
  pub many_shows : (tree : T) (tokens : List Lexeme) → All IsWritten tokens → (many : Many form by join tokens tree) → Prints (Joined form by join) tree (between by (map shown many.members))
  many_shows tree tokens w many =
      let p = separated_shows shown shows by written many.members tokens w many.separated in
      (inr (record { members = many.members; joined = many.joined; many = many.many; separated = p.0 }), p.1)
