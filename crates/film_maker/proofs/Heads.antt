-- The head line, piece by piece.
use Rattle.std.proofs.Common.{◌≡◌, ℕ, List, ◌++◌, codes, decimal, ◌∙◌, append_assoc}
use Rattle.std.specs.Fmt.{digits}
use Rattle.spec_film.specs.Written.{head_text}
use Rattle.film_maker.specs.Made.{made_head}

pub head_by : (width height : ℕ) (a b c d e wide high : List ℕ) → a ≡ codes "YUV4MPEG2 W" → b ≡ a ++ wide → wide ≡ decimal width → c ≡ b ++ codes " H" → d ≡ c ++ high → high ≡ decimal height → e ≡ d ++ codes " F25:1 Ip C420\n" → e ≡ head_text (made_head width height)
unfolding head_text digits
head_by width height a b c d e wide high ea eb ew ec ed eh ee =
    rw (ee, ed, ec, eb, ea, ew, eh)
    (append_assoc ((codes "YUV4MPEG2 W" ++ decimal width) ++ codes " H") (decimal height) (codes " F25:1 Ip C420\n")
    ∙ append_assoc (codes "YUV4MPEG2 W" ++ decimal width) (codes " H") (decimal height ++ codes " F25:1 Ip C420\n")
    ∙ append_assoc (codes "YUV4MPEG2 W") (decimal width) (codes " H" ++ (decimal height ++ codes " F25:1 Ip C420\n")))
