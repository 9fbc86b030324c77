use Rattle.spec_slice_payload.proofs.Layers.{layer_back, idr_layer_back}
use Rattle.spec_slice_payload.proofs.layers_are_read_back.Goals as goal

pub returns : goal.returns
returns c = record { all = layer_back; idr = idr_layer_back }
