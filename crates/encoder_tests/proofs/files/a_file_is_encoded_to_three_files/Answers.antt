use Rattle.std.proofs.Common.{refl}
use Rattle.spec_words.specs.Choices.{early_of}
use Rattle.encoder_tests.proofs.files.a_file_is_encoded_to_three_files.Goals as goal

-- src/files.rt:65:15
pub encode-end-requires-clause-early : goal.encode-end-requires-clause-early
unfolding early_of
encode-end-requires-clause-early g c κs = refl
