use Rattle.std.proofs.Common.{◌++◌, codes, ap, ◌∙◌}
use Rattle.film_maker.proofs.Heads.{head_by}
use Rattle.film_maker.proofs.head_line.Goals as goal

pub returns : goal.returns
returns c =
    head_by c.args.width c.args.height _ _ _ _ _ _ _
    (c.push_str.ensures.bytes ∙ ap (λ bytes. bytes ++ codes "YUV4MPEG2 W") c.new-line.ensures) c.push_str-2.ensures.bytes c.format.ensures.text c.push_str-3.ensures.bytes c.push_str-4.ensures.bytes c.format-2.ensures.text c.push_str-5.ensures.bytes
