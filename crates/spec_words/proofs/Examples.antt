-- Worked words of the commands that clap reads: the definitions computed.
use Rattle.std.proofs.Common.{◌≡◌, false, [], ◌∷◌, codes, refl}
use Rattle.clap.proofs.OnLiterals.{clap_on_literals}
use Rattle.clap.specs.declared.error.kind.ErrorKind.TheVariants as kind
use Rattle.spec_words.specs.declared.command.Command.TheVariants.{Store, Encode}
use Rattle.spec_words.specs.declared.command.WordFault.TheVariants.{NoCommand, UnknownCommand}
use Rattle.spec_words.specs.Choices.{cpb_of, delay_of, given_number, number_of, outputs_of, rate_of, settings_of, text_of, unsigned_of}
use Rattle.spec_words.specs.Commands.{encode_of, meaning_of, store_of}
use Rattle.spec_words.specs.Commands.Meaning.{Means, Faulty, Refuses}

no_words : meaning_of [] ≡ Faulty NoCommand
unfolding meaning_of
no_words = refl

unknown : meaning_of (codes "--in" ∷ codes "a" ∷ []) ≡ Faulty UnknownCommand
unfolding meaning_of
unknown = refl

-- in any order, in both forms
stores : meaning_of (codes "store" ∷ codes "--out" ∷ codes "b" ∷ codes "--in=a" ∷ []) ≡ Means (Store (codes "a") (codes "b"))
unfolding meaning_of store_of text_of clap_on_literals
stores = refl

stores_twice : meaning_of (codes "store" ∷ codes "--in" ∷ codes "a" ∷ codes "--in" ∷ codes "b" ∷ codes "--out" ∷ codes "c" ∷ []) ≡ Refuses (kind.ArgumentConflict ∷ [])
unfolding meaning_of store_of clap_on_literals
stores_twice = refl

-- the rate is a multiple of 64, and the buffer of 16; the delay follows from these, and not from the words
encodes : meaning_of (codes "encode" ∷ codes "--in=a" ∷ codes "--out=b" ∷ codes "--recon=c" ∷ codes "--report=d" ∷ codes "--bitrate=1000" ∷ codes "--cpb=1000" ∷ codes "--t8x8=off" ∷ [])
    ≡ Means (Encode (codes "a") (record { stream = codes "b"; recon = codes "c"; report = codes "d" }) (record {
      rate = 960;
      cpb = 992;
      delay = 46500;
      qp = 26;
      refs = 2;
      bframes = 2;
      idr = 250;
      range = 16;
      slices = 1;
      workers = 1;
      level = 0;
      t8x8 = false;
    }))
unfolding meaning_of encode_of text_of outputs_of settings_of rate_of cpb_of delay_of number_of given_number unsigned_of clap_on_literals
encodes = refl

too_coarse : meaning_of (codes "encode" ∷ codes "--in=a" ∷ codes "--out=b" ∷ codes "--recon=c" ∷ codes "--report=d" ∷ codes "--bitrate=1000" ∷ codes "--qp=52" ∷ []) ≡ Refuses (kind.ValueValidation ∷ [])
unfolding meaning_of encode_of clap_on_literals
too_coarse = refl
