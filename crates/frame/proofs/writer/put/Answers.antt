use Rattle.std.proofs.Common.{◌≡◌, ◌≤◌, ◌/◌, ◌%◌, [], ◌∷◌, length, ◌∙◌, arith}
use Rattle.frame.specs.Views.{tag_of, bytes_of}
use Rattle.frame.proofs.Sizes.{fits_most}
use Rattle.frame.proofs.Puts.{field_put}
use Rattle.frame.proofs.writer.put.Goals as goal

pub returns-clause-wrote : goal.returns-clause-wrote
returns-clause-wrote c =
    let f = c.in-Some.field in
    let n = length (bytes_of f) in
    let few : n ≤ 20 = fits_most (tag_of f) n (rw c.in-Some.is at c.requires.fits) in
    let high : n / 256 % 256 ≡ n / 256 = omega arith in
    let header : c.copy_from_slice.new.self ≡ tag_of f ∷ n / 256 ∷ n % 256 ∷ [] = rw (c.copy_from_slice.ensures.after, c.to_be_bytes.ensures, c.into.ensures, c.tag.ensures, c.bytes-bytes.ensures, high) in
    let bytes = c.copy_from_slice-2.ensures.after ∙ c.bytes-bytes.ensures in
    let room = rw c.in-Some.is at c.requires.room in
    rw (c.in-Some.is, c.bytes-bytes.ensures) (field_put c.args.out.now (bytes_of f) c.copy_from_slice.new.self c.copy_from_slice-2.new.self c.args.at _ _ _ header bytes room)
