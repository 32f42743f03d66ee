use Rattle.std.proofs.Common.{◌≡◌, ◌∙◌, ap, refl, w32}
use Rattle.std.specs.Prelude.{neg_ℤ, pos, ◌-ℤ◌, unsigned_abs}
use Rattle.std.proofs.lemmas.Int.{to_z-of_z}
use Rattle.msd_codec.proofs.Joined.{angles_put}
use Rattle.msd_codec.proofs.writing.elements.write_angles.Goals as goal

pub returns : goal.returns
returns c =
    let low = neg_ℤ (pos 2147483648) in
    let first : c.from-first.result ≡ unsigned_abs (c.args.first -ℤ low) = c.from-first.ensures ∙ c.abs_diff.ensures ∙ ap (λ z. unsigned_abs (z -ℤ low)) (to_z-of_z w32 c.args.first c.ranges.first) in
    let second : c.from-second.result ≡ unsigned_abs (c.args.second -ℤ low) = c.from-second.ensures ∙ c.abs_diff-2.ensures ∙ ap (λ z. unsigned_abs (z -ℤ low)) (to_z-of_z w32 c.args.second c.ranges.second) in
    angles_put c.args.first c.args.second c.from-first.result c.from-second.result _ c.args.to.now c.put.new.self c.put.result c.ranges.first c.ranges.second first second refl c.put.ensures.ok c.put.ensures.full
