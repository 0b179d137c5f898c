use Rattle.std.proofs.Common.{None, ap, ◌∙◌}
use Rattle.std.specs.Ordering.{nat_cmp}
use Rattle.std.specs.Cmp.Lexicographic.{nat_list_cmp_total, slice_cmp}
use Rattle.std.proofs.lemmas.Map.Lookups.{exact_bytes}
use Rattle.std.specs.FinMap as finite
use Rattle.mt_places.proofs.Mapped.{as_read, entries-put, put-read}
use Rattle.mt_places.proofs.body_places.TableBodies.ask.Goals as goal

pub returns : goal.returns
returns c =
    let es = c.self.inside.places.entries in
    let body = c.in_ok-body.body in
    ap (λ fs. finite.from_entries (as_read (slice_cmp nat_cmp) (λ v. v.items) fs)) c.in_ok-insert.ensures.entries
    ∙ ap finite.from_entries (put-read (slice_cmp nat_cmp) (λ v. v.items) es body None)
    ∙ entries-put nat_list_cmp_total exact_bytes (as_read (slice_cmp nat_cmp) (λ v. v.items) es) body.items None
    ∙ ap (λ m. finite.insert m body.items None) c.self.view_is
    ∙ ap (λ b. finite.insert c.args.self.now b None) c.in_ok-body.ensures.items
