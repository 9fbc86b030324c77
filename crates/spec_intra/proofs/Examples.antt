-- Predictions of small examples, worked out apart from the definitions by a plain program, and availability of small pictures.
use Rattle.std.specs.Prelude.{◌≡◌, ℕ, Bool, true, false, [], ◌∷◌, refl, slice_index, map}
use Rattle.std.specs.List.{range_with_len}
use Rattle.spec_basics.specs.Sums.{sum_below}
use Rattle.spec_intra.specs.Near.{macroblock_avail, block_avail}
use Rattle.spec_basics.specs.Blocks.{block_column, block_row, block_number}
use Rattle.spec_intra.specs.declared.Avail.{Avail}
use Rattle.spec_intra.specs.declared.Nb4.{Nb4}
use Rattle.spec_intra.specs.declared.Nb8.{Nb8}
use Rattle.spec_intra.specs.declared.Nb16.{Nb16}
use Rattle.spec_intra.specs.declared.NbC.{NbC}
use Rattle.spec_intra.specs.Block.{line, block}
use Rattle.spec_intra.specs.Directions.{vertical, horizontal, down_left, down_right, vertical_right, horizontal_down, vertical_left, horizontal_up}
use Rattle.spec_intra.specs.Means.{mean, mean_of_sides, chroma_beside, chroma_means}
use Rattle.spec_intra.specs.Smoothing.{smoothed}
use Rattle.spec_intra.specs.Slopes.{tilt, slope, plane_at}
use Rattle.spec_intra.specs.Predictions.{edge4, edge8, from_edge, predicted4, predicted8, predicted16, predicted_chroma}

abbrev everywhere : Avail
everywhere = record { left = true; above = true; corner = true; above_right = true }

abbrev not_beyond : Avail
not_beyond = record { left = true; above = true; corner = true; above_right = false }

abbrev above_alone : Avail
above_alone = record { left = false; above = true; corner = false; above_right = true }

abbrev left_alone : Avail
left_alone = record { left = true; above = false; corner = false; above_right = false }

abbrev nowhere : Avail
nowhere = record { left = false; above = false; corner = false; above_right = false }

abbrev near4 : Avail → Nb4
near4 avail = record { above = 10 ∷ 200 ∷ 31 ∷ 47 ∷ 250 ∷ 3 ∷ 99 ∷ 120 ∷ []; left = 77 ∷ 5 ∷ 180 ∷ 222 ∷ []; corner = 141; avail = avail }

row4_0 : predicted4 0 (near4 everywhere) ≡ (10 ∷ 200 ∷ 31 ∷ 47 ∷ 10 ∷ 200 ∷ 31 ∷ 47 ∷ 10 ∷ 200 ∷ 31 ∷ 47 ∷ 10 ∷ 200 ∷ 31 ∷ 47 ∷ [])
unfolding line block vertical horizontal down_left down_right vertical_right horizontal_down vertical_left horizontal_up mean mean_of_sides chroma_beside chroma_means smoothed tilt sum_below slope plane_at edge4 edge8 from_edge predicted16 predicted_chroma
row4_0 = refl

row4_1 : predicted4 1 (near4 everywhere) ≡ (77 ∷ 77 ∷ 77 ∷ 77 ∷ 5 ∷ 5 ∷ 5 ∷ 5 ∷ 180 ∷ 180 ∷ 180 ∷ 180 ∷ 222 ∷ 222 ∷ 222 ∷ 222 ∷ [])
unfolding line block vertical horizontal down_left down_right vertical_right horizontal_down vertical_left horizontal_up mean mean_of_sides chroma_beside chroma_means smoothed tilt sum_below slope plane_at edge4 edge8 from_edge predicted16 predicted_chroma
row4_1 = refl

row4_2 : predicted4 2 (near4 everywhere) ≡ (97 ∷ 97 ∷ 97 ∷ 97 ∷ 97 ∷ 97 ∷ 97 ∷ 97 ∷ 97 ∷ 97 ∷ 97 ∷ 97 ∷ 97 ∷ 97 ∷ 97 ∷ 97 ∷ [])
unfolding line block vertical horizontal down_left down_right vertical_right horizontal_down vertical_left horizontal_up mean mean_of_sides chroma_beside chroma_means smoothed tilt sum_below slope plane_at edge4 edge8 from_edge predicted16 predicted_chroma
row4_2 = refl

row4_3 : predicted4 3 (near4 everywhere) ≡ (110 ∷ 77 ∷ 94 ∷ 138 ∷ 77 ∷ 94 ∷ 138 ∷ 89 ∷ 94 ∷ 138 ∷ 89 ∷ 80 ∷ 138 ∷ 89 ∷ 80 ∷ 115 ∷ [])
unfolding line block vertical horizontal down_left down_right vertical_right horizontal_down vertical_left horizontal_up mean mean_of_sides chroma_beside chroma_means smoothed tilt sum_below slope plane_at edge4 edge8 from_edge predicted16 predicted_chroma
row4_3 = refl

row4_4 : predicted4 4 (near4 everywhere) ≡ (92 ∷ 90 ∷ 110 ∷ 77 ∷ 75 ∷ 92 ∷ 90 ∷ 110 ∷ 67 ∷ 75 ∷ 92 ∷ 90 ∷ 147 ∷ 67 ∷ 75 ∷ 92 ∷ [])
unfolding line block vertical horizontal down_left down_right vertical_right horizontal_down vertical_left horizontal_up mean mean_of_sides chroma_beside chroma_means smoothed tilt sum_below slope plane_at edge4 edge8 from_edge predicted16 predicted_chroma
row4_4 = refl

row4_5 : predicted4 5 (near4 everywhere) ≡ (76 ∷ 105 ∷ 116 ∷ 39 ∷ 92 ∷ 90 ∷ 110 ∷ 77 ∷ 75 ∷ 76 ∷ 105 ∷ 116 ∷ 67 ∷ 92 ∷ 90 ∷ 110 ∷ [])
unfolding line block vertical horizontal down_left down_right vertical_right horizontal_down vertical_left horizontal_up mean mean_of_sides chroma_beside chroma_means smoothed tilt sum_below slope plane_at edge4 edge8 from_edge predicted16 predicted_chroma
row4_5 = refl

row4_6 : predicted4 6 (near4 everywhere) ≡ (109 ∷ 92 ∷ 90 ∷ 110 ∷ 41 ∷ 75 ∷ 109 ∷ 92 ∷ 93 ∷ 67 ∷ 41 ∷ 75 ∷ 201 ∷ 147 ∷ 93 ∷ 67 ∷ [])
unfolding line block vertical horizontal down_left down_right vertical_right horizontal_down vertical_left horizontal_up mean mean_of_sides chroma_beside chroma_means smoothed tilt sum_below slope plane_at edge4 edge8 from_edge predicted16 predicted_chroma
row4_6 = refl

row4_7 : predicted4 7 (near4 everywhere) ≡ (105 ∷ 116 ∷ 39 ∷ 149 ∷ 110 ∷ 77 ∷ 94 ∷ 138 ∷ 116 ∷ 39 ∷ 149 ∷ 127 ∷ 77 ∷ 94 ∷ 138 ∷ 89 ∷ [])
unfolding line block vertical horizontal down_left down_right vertical_right horizontal_down vertical_left horizontal_up mean mean_of_sides chroma_beside chroma_means smoothed tilt sum_below slope plane_at edge4 edge8 from_edge predicted16 predicted_chroma
row4_7 = refl

row4_8 : predicted4 8 (near4 everywhere) ≡ (41 ∷ 67 ∷ 93 ∷ 147 ∷ 93 ∷ 147 ∷ 201 ∷ 212 ∷ 201 ∷ 212 ∷ 222 ∷ 222 ∷ 222 ∷ 222 ∷ 222 ∷ 222 ∷ [])
unfolding line block vertical horizontal down_left down_right vertical_right horizontal_down vertical_left horizontal_up mean mean_of_sides chroma_beside chroma_means smoothed tilt sum_below slope plane_at edge4 edge8 from_edge predicted16 predicted_chroma
row4_8 = refl

row4_beyond_3 : predicted4 3 (near4 not_beyond) ≡ (110 ∷ 77 ∷ 43 ∷ 47 ∷ 77 ∷ 43 ∷ 47 ∷ 47 ∷ 43 ∷ 47 ∷ 47 ∷ 47 ∷ 47 ∷ 47 ∷ 47 ∷ 47 ∷ [])
unfolding line block vertical horizontal down_left down_right vertical_right horizontal_down vertical_left horizontal_up mean mean_of_sides chroma_beside chroma_means smoothed tilt sum_below slope plane_at edge4 edge8 from_edge predicted16 predicted_chroma
row4_beyond_3 = refl

row4_beyond_7 : predicted4 7 (near4 not_beyond) ≡ (105 ∷ 116 ∷ 39 ∷ 47 ∷ 110 ∷ 77 ∷ 43 ∷ 47 ∷ 116 ∷ 39 ∷ 47 ∷ 47 ∷ 77 ∷ 43 ∷ 47 ∷ 47 ∷ [])
unfolding line block vertical horizontal down_left down_right vertical_right horizontal_down vertical_left horizontal_up mean mean_of_sides chroma_beside chroma_means smoothed tilt sum_below slope plane_at edge4 edge8 from_edge predicted16 predicted_chroma
row4_beyond_7 = refl

row4_mean_above_alone : predicted4 2 (near4 above_alone) ≡ (72 ∷ 72 ∷ 72 ∷ 72 ∷ 72 ∷ 72 ∷ 72 ∷ 72 ∷ 72 ∷ 72 ∷ 72 ∷ 72 ∷ 72 ∷ 72 ∷ 72 ∷ 72 ∷ [])
unfolding line block vertical horizontal down_left down_right vertical_right horizontal_down vertical_left horizontal_up mean mean_of_sides chroma_beside chroma_means smoothed tilt sum_below slope plane_at edge4 edge8 from_edge predicted16 predicted_chroma
row4_mean_above_alone = refl

row4_mean_left_alone : predicted4 2 (near4 left_alone) ≡ (121 ∷ 121 ∷ 121 ∷ 121 ∷ 121 ∷ 121 ∷ 121 ∷ 121 ∷ 121 ∷ 121 ∷ 121 ∷ 121 ∷ 121 ∷ 121 ∷ 121 ∷ 121 ∷ [])
unfolding line block vertical horizontal down_left down_right vertical_right horizontal_down vertical_left horizontal_up mean mean_of_sides chroma_beside chroma_means smoothed tilt sum_below slope plane_at edge4 edge8 from_edge predicted16 predicted_chroma
row4_mean_left_alone = refl

row4_mean_nowhere : predicted4 2 (near4 nowhere) ≡ (128 ∷ 128 ∷ 128 ∷ 128 ∷ 128 ∷ 128 ∷ 128 ∷ 128 ∷ 128 ∷ 128 ∷ 128 ∷ 128 ∷ 128 ∷ 128 ∷ 128 ∷ 128 ∷ [])
unfolding line block vertical horizontal down_left down_right vertical_right horizontal_down vertical_left horizontal_up mean mean_of_sides chroma_beside chroma_means smoothed tilt sum_below slope plane_at edge4 edge8 from_edge predicted16 predicted_chroma
row4_mean_nowhere = refl

abbrev near8 : Avail → Nb8
near8 avail = record { above = 17 ∷ 145 ∷ 91 ∷ 111 ∷ 205 ∷ 117 ∷ 103 ∷ 163 ∷ 41 ∷ 249 ∷ 19 ∷ 119 ∷ 37 ∷ 29 ∷ 95 ∷ 235 ∷ []; left = 201 ∷ 27 ∷ 215 ∷ 253 ∷ 141 ∷ 135 ∷ 235 ∷ 185 ∷ []; corner = 66; avail = avail }

row8_0 : predicted8 0 (near8 everywhere) ≡ (61 ∷ 100 ∷ 110 ∷ 130 ∷ 160 ∷ 136 ∷ 122 ∷ 118 ∷ 61 ∷ 100 ∷ 110 ∷ 130 ∷ 160 ∷ 136 ∷ 122 ∷ 118 ∷ 61 ∷ 100 ∷ 110 ∷ 130 ∷ 160 ∷ 136 ∷ 122 ∷ 118 ∷ 61 ∷ 100 ∷ 110 ∷ 130 ∷ 160 ∷ 136 ∷ 122 ∷ 118 ∷ 61 ∷ 100 ∷ 110 ∷ 130 ∷ 160 ∷ 136 ∷ 122 ∷ 118 ∷ 61 ∷ 100 ∷ 110 ∷ 130 ∷ 160 ∷ 136 ∷ 122 ∷ 118 ∷ 61 ∷ 100 ∷ 110 ∷ 130 ∷ 160 ∷ 136 ∷ 122 ∷ 118 ∷ 61 ∷ 100 ∷ 110 ∷ 130 ∷ 160 ∷ 136 ∷ 122 ∷ 118 ∷ [])
unfolding line block vertical horizontal down_left down_right vertical_right horizontal_down vertical_left horizontal_up mean mean_of_sides chroma_beside chroma_means smoothed tilt sum_below slope plane_at edge4 edge8 from_edge predicted16 predicted_chroma
row8_0 = refl

row8_1 : predicted8 1 (near8 everywhere) ≡ (124 ∷ 124 ∷ 124 ∷ 124 ∷ 124 ∷ 124 ∷ 124 ∷ 124 ∷ 118 ∷ 118 ∷ 118 ∷ 118 ∷ 118 ∷ 118 ∷ 118 ∷ 118 ∷ 178 ∷ 178 ∷ 178 ∷ 178 ∷ 178 ∷ 178 ∷ 178 ∷ 178 ∷ 216 ∷ 216 ∷ 216 ∷ 216 ∷ 216 ∷ 216 ∷ 216 ∷ 216 ∷ 168 ∷ 168 ∷ 168 ∷ 168 ∷ 168 ∷ 168 ∷ 168 ∷ 168 ∷ 162 ∷ 162 ∷ 162 ∷ 162 ∷ 162 ∷ 162 ∷ 162 ∷ 162 ∷ 198 ∷ 198 ∷ 198 ∷ 198 ∷ 198 ∷ 198 ∷ 198 ∷ 198 ∷ 198 ∷ 198 ∷ 198 ∷ 198 ∷ 198 ∷ 198 ∷ 198 ∷ 198 ∷ [])
unfolding line block vertical horizontal down_left down_right vertical_right horizontal_down vertical_left horizontal_up mean mean_of_sides chroma_beside chroma_means smoothed tilt sum_below slope plane_at edge4 edge8 from_edge predicted16 predicted_chroma
row8_1 = refl

row8_2 : predicted8 2 (near8 everywhere) ≡ (144 ∷ 144 ∷ 144 ∷ 144 ∷ 144 ∷ 144 ∷ 144 ∷ 144 ∷ 144 ∷ 144 ∷ 144 ∷ 144 ∷ 144 ∷ 144 ∷ 144 ∷ 144 ∷ 144 ∷ 144 ∷ 144 ∷ 144 ∷ 144 ∷ 144 ∷ 144 ∷ 144 ∷ 144 ∷ 144 ∷ 144 ∷ 144 ∷ 144 ∷ 144 ∷ 144 ∷ 144 ∷ 144 ∷ 144 ∷ 144 ∷ 144 ∷ 144 ∷ 144 ∷ 144 ∷ 144 ∷ 144 ∷ 144 ∷ 144 ∷ 144 ∷ 144 ∷ 144 ∷ 144 ∷ 144 ∷ 144 ∷ 144 ∷ 144 ∷ 144 ∷ 144 ∷ 144 ∷ 144 ∷ 144 ∷ 144 ∷ 144 ∷ 144 ∷ 144 ∷ 144 ∷ 144 ∷ 144 ∷ 144 ∷ [])
unfolding line block vertical horizontal down_left down_right vertical_right horizontal_down vertical_left horizontal_up mean mean_of_sides chroma_beside chroma_means smoothed tilt sum_below slope plane_at edge4 edge8 from_edge predicted16 predicted_chroma
row8_2 = refl

row8_3 : predicted8 3 (near8 everywhere) ≡ (93 ∷ 113 ∷ 133 ∷ 147 ∷ 139 ∷ 125 ∷ 121 ∷ 127 ∷ 113 ∷ 133 ∷ 147 ∷ 139 ∷ 125 ∷ 121 ∷ 127 ∷ 127 ∷ 133 ∷ 147 ∷ 139 ∷ 125 ∷ 121 ∷ 127 ∷ 127 ∷ 105 ∷ 147 ∷ 139 ∷ 125 ∷ 121 ∷ 127 ∷ 127 ∷ 105 ∷ 77 ∷ 139 ∷ 125 ∷ 121 ∷ 127 ∷ 127 ∷ 105 ∷ 77 ∷ 59 ∷ 125 ∷ 121 ∷ 127 ∷ 127 ∷ 105 ∷ 77 ∷ 59 ∷ 67 ∷ 121 ∷ 127 ∷ 127 ∷ 105 ∷ 77 ∷ 59 ∷ 67 ∷ 119 ∷ 127 ∷ 127 ∷ 105 ∷ 77 ∷ 59 ∷ 67 ∷ 119 ∷ 179 ∷ [])
unfolding line block vertical horizontal down_left down_right vertical_right horizontal_down vertical_left horizontal_up mean mean_of_sides chroma_beside chroma_means smoothed tilt sum_below slope plane_at edge4 edge8 from_edge predicted16 predicted_chroma
row8_3 = refl

row8_4 : predicted8 4 (near8 everywhere) ≡ (90 ∷ 78 ∷ 93 ∷ 113 ∷ 133 ∷ 147 ∷ 139 ∷ 125 ∷ 114 ∷ 90 ∷ 78 ∷ 93 ∷ 113 ∷ 133 ∷ 147 ∷ 139 ∷ 135 ∷ 114 ∷ 90 ∷ 78 ∷ 93 ∷ 113 ∷ 133 ∷ 147 ∷ 173 ∷ 135 ∷ 114 ∷ 90 ∷ 78 ∷ 93 ∷ 113 ∷ 133 ∷ 195 ∷ 173 ∷ 135 ∷ 114 ∷ 90 ∷ 78 ∷ 93 ∷ 113 ∷ 179 ∷ 195 ∷ 173 ∷ 135 ∷ 114 ∷ 90 ∷ 78 ∷ 93 ∷ 173 ∷ 179 ∷ 195 ∷ 173 ∷ 135 ∷ 114 ∷ 90 ∷ 78 ∷ 189 ∷ 173 ∷ 179 ∷ 195 ∷ 173 ∷ 135 ∷ 114 ∷ 90 ∷ [])
unfolding line block vertical horizontal down_left down_right vertical_right horizontal_down vertical_left horizontal_up mean mean_of_sides chroma_beside chroma_means smoothed tilt sum_below slope plane_at edge4 edge8 from_edge predicted16 predicted_chroma
row8_4 = refl

row8_5 : predicted8 5 (near8 everywhere) ≡ (75 ∷ 81 ∷ 105 ∷ 120 ∷ 145 ∷ 148 ∷ 129 ∷ 120 ∷ 90 ∷ 78 ∷ 93 ∷ 113 ∷ 133 ∷ 147 ∷ 139 ∷ 125 ∷ 114 ∷ 75 ∷ 81 ∷ 105 ∷ 120 ∷ 145 ∷ 148 ∷ 129 ∷ 135 ∷ 90 ∷ 78 ∷ 93 ∷ 113 ∷ 133 ∷ 147 ∷ 139 ∷ 173 ∷ 114 ∷ 75 ∷ 81 ∷ 105 ∷ 120 ∷ 145 ∷ 148 ∷ 195 ∷ 135 ∷ 90 ∷ 78 ∷ 93 ∷ 113 ∷ 133 ∷ 147 ∷ 179 ∷ 173 ∷ 114 ∷ 75 ∷ 81 ∷ 105 ∷ 120 ∷ 145 ∷ 173 ∷ 195 ∷ 135 ∷ 90 ∷ 78 ∷ 93 ∷ 113 ∷ 133 ∷ [])
unfolding line block vertical horizontal down_left down_right vertical_right horizontal_down vertical_left horizontal_up mean mean_of_sides chroma_beside chroma_means smoothed tilt sum_below slope plane_at edge4 edge8 from_edge predicted16 predicted_chroma
row8_5 = refl

row8_6 : predicted8 6 (near8 everywhere) ≡ (106 ∷ 90 ∷ 78 ∷ 93 ∷ 113 ∷ 133 ∷ 147 ∷ 139 ∷ 121 ∷ 114 ∷ 106 ∷ 90 ∷ 78 ∷ 93 ∷ 113 ∷ 133 ∷ 148 ∷ 135 ∷ 121 ∷ 114 ∷ 106 ∷ 90 ∷ 78 ∷ 93 ∷ 197 ∷ 173 ∷ 148 ∷ 135 ∷ 121 ∷ 114 ∷ 106 ∷ 90 ∷ 192 ∷ 195 ∷ 197 ∷ 173 ∷ 148 ∷ 135 ∷ 121 ∷ 114 ∷ 165 ∷ 179 ∷ 192 ∷ 195 ∷ 197 ∷ 173 ∷ 148 ∷ 135 ∷ 180 ∷ 173 ∷ 165 ∷ 179 ∷ 192 ∷ 195 ∷ 197 ∷ 173 ∷ 198 ∷ 189 ∷ 180 ∷ 173 ∷ 165 ∷ 179 ∷ 192 ∷ 195 ∷ [])
unfolding line block vertical horizontal down_left down_right vertical_right horizontal_down vertical_left horizontal_up mean mean_of_sides chroma_beside chroma_means smoothed tilt sum_below slope plane_at edge4 edge8 from_edge predicted16 predicted_chroma
row8_6 = refl

row8_7 : predicted8 7 (near8 everywhere) ≡ (81 ∷ 105 ∷ 120 ∷ 145 ∷ 148 ∷ 129 ∷ 120 ∷ 121 ∷ 93 ∷ 113 ∷ 133 ∷ 147 ∷ 139 ∷ 125 ∷ 121 ∷ 127 ∷ 105 ∷ 120 ∷ 145 ∷ 148 ∷ 129 ∷ 120 ∷ 121 ∷ 132 ∷ 113 ∷ 133 ∷ 147 ∷ 139 ∷ 125 ∷ 121 ∷ 127 ∷ 127 ∷ 120 ∷ 145 ∷ 148 ∷ 129 ∷ 120 ∷ 121 ∷ 132 ∷ 121 ∷ 133 ∷ 147 ∷ 139 ∷ 125 ∷ 121 ∷ 127 ∷ 127 ∷ 105 ∷ 145 ∷ 148 ∷ 129 ∷ 120 ∷ 121 ∷ 132 ∷ 121 ∷ 88 ∷ 147 ∷ 139 ∷ 125 ∷ 121 ∷ 127 ∷ 127 ∷ 105 ∷ 77 ∷ [])
unfolding line block vertical horizontal down_left down_right vertical_right horizontal_down vertical_left horizontal_up mean mean_of_sides chroma_beside chroma_means smoothed tilt sum_below slope plane_at edge4 edge8 from_edge predicted16 predicted_chroma
row8_7 = refl

row8_8 : predicted8 8 (near8 everywhere) ≡ (121 ∷ 135 ∷ 148 ∷ 173 ∷ 197 ∷ 195 ∷ 192 ∷ 179 ∷ 148 ∷ 173 ∷ 197 ∷ 195 ∷ 192 ∷ 179 ∷ 165 ∷ 173 ∷ 197 ∷ 195 ∷ 192 ∷ 179 ∷ 165 ∷ 173 ∷ 180 ∷ 189 ∷ 192 ∷ 179 ∷ 165 ∷ 173 ∷ 180 ∷ 189 ∷ 198 ∷ 198 ∷ 165 ∷ 173 ∷ 180 ∷ 189 ∷ 198 ∷ 198 ∷ 198 ∷ 198 ∷ 180 ∷ 189 ∷ 198 ∷ 198 ∷ 198 ∷ 198 ∷ 198 ∷ 198 ∷ 198 ∷ 198 ∷ 198 ∷ 198 ∷ 198 ∷ 198 ∷ 198 ∷ 198 ∷ 198 ∷ 198 ∷ 198 ∷ 198 ∷ 198 ∷ 198 ∷ 198 ∷ 198 ∷ [])
unfolding line block vertical horizontal down_left down_right vertical_right horizontal_down vertical_left horizontal_up mean mean_of_sides chroma_beside chroma_means smoothed tilt sum_below slope plane_at edge4 edge8 from_edge predicted16 predicted_chroma
row8_8 = refl

row8_beyond_3 : predicted8 3 (near8 not_beyond) ≡ (93 ∷ 113 ∷ 133 ∷ 147 ∷ 139 ∷ 132 ∷ 145 ∷ 159 ∷ 113 ∷ 133 ∷ 147 ∷ 139 ∷ 132 ∷ 145 ∷ 159 ∷ 163 ∷ 133 ∷ 147 ∷ 139 ∷ 132 ∷ 145 ∷ 159 ∷ 163 ∷ 163 ∷ 147 ∷ 139 ∷ 132 ∷ 145 ∷ 159 ∷ 163 ∷ 163 ∷ 163 ∷ 139 ∷ 132 ∷ 145 ∷ 159 ∷ 163 ∷ 163 ∷ 163 ∷ 163 ∷ 132 ∷ 145 ∷ 159 ∷ 163 ∷ 163 ∷ 163 ∷ 163 ∷ 163 ∷ 145 ∷ 159 ∷ 163 ∷ 163 ∷ 163 ∷ 163 ∷ 163 ∷ 163 ∷ 159 ∷ 163 ∷ 163 ∷ 163 ∷ 163 ∷ 163 ∷ 163 ∷ 163 ∷ [])
unfolding line block vertical horizontal down_left down_right vertical_right horizontal_down vertical_left horizontal_up mean mean_of_sides chroma_beside chroma_means smoothed tilt sum_below slope plane_at edge4 edge8 from_edge predicted16 predicted_chroma
row8_beyond_3 = refl

row8_beyond_7 : predicted8 7 (near8 not_beyond) ≡ (81 ∷ 105 ∷ 120 ∷ 145 ∷ 148 ∷ 129 ∷ 135 ∷ 156 ∷ 93 ∷ 113 ∷ 133 ∷ 147 ∷ 139 ∷ 132 ∷ 145 ∷ 159 ∷ 105 ∷ 120 ∷ 145 ∷ 148 ∷ 129 ∷ 135 ∷ 156 ∷ 163 ∷ 113 ∷ 133 ∷ 147 ∷ 139 ∷ 132 ∷ 145 ∷ 159 ∷ 163 ∷ 120 ∷ 145 ∷ 148 ∷ 129 ∷ 135 ∷ 156 ∷ 163 ∷ 163 ∷ 133 ∷ 147 ∷ 139 ∷ 132 ∷ 145 ∷ 159 ∷ 163 ∷ 163 ∷ 145 ∷ 148 ∷ 129 ∷ 135 ∷ 156 ∷ 163 ∷ 163 ∷ 163 ∷ 147 ∷ 139 ∷ 132 ∷ 145 ∷ 159 ∷ 163 ∷ 163 ∷ 163 ∷ [])
unfolding line block vertical horizontal down_left down_right vertical_right horizontal_down vertical_left horizontal_up mean mean_of_sides chroma_beside chroma_means smoothed tilt sum_below slope plane_at edge4 edge8 from_edge predicted16 predicted_chroma
row8_beyond_7 = refl

row8_0_above : predicted8 0 (near8 above_alone) ≡ (49 ∷ 100 ∷ 110 ∷ 130 ∷ 160 ∷ 136 ∷ 122 ∷ 118 ∷ 49 ∷ 100 ∷ 110 ∷ 130 ∷ 160 ∷ 136 ∷ 122 ∷ 118 ∷ 49 ∷ 100 ∷ 110 ∷ 130 ∷ 160 ∷ 136 ∷ 122 ∷ 118 ∷ 49 ∷ 100 ∷ 110 ∷ 130 ∷ 160 ∷ 136 ∷ 122 ∷ 118 ∷ 49 ∷ 100 ∷ 110 ∷ 130 ∷ 160 ∷ 136 ∷ 122 ∷ 118 ∷ 49 ∷ 100 ∷ 110 ∷ 130 ∷ 160 ∷ 136 ∷ 122 ∷ 118 ∷ 49 ∷ 100 ∷ 110 ∷ 130 ∷ 160 ∷ 136 ∷ 122 ∷ 118 ∷ 49 ∷ 100 ∷ 110 ∷ 130 ∷ 160 ∷ 136 ∷ 122 ∷ 118 ∷ [])
unfolding line block vertical horizontal down_left down_right vertical_right horizontal_down vertical_left horizontal_up mean mean_of_sides chroma_beside chroma_means smoothed tilt sum_below slope plane_at edge4 edge8 from_edge predicted16 predicted_chroma
row8_0_above = refl

row8_1_left : predicted8 1 (near8 left_alone) ≡ (158 ∷ 158 ∷ 158 ∷ 158 ∷ 158 ∷ 158 ∷ 158 ∷ 158 ∷ 118 ∷ 118 ∷ 118 ∷ 118 ∷ 118 ∷ 118 ∷ 118 ∷ 118 ∷ 178 ∷ 178 ∷ 178 ∷ 178 ∷ 178 ∷ 178 ∷ 178 ∷ 178 ∷ 216 ∷ 216 ∷ 216 ∷ 216 ∷ 216 ∷ 216 ∷ 216 ∷ 216 ∷ 168 ∷ 168 ∷ 168 ∷ 168 ∷ 168 ∷ 168 ∷ 168 ∷ 168 ∷ 162 ∷ 162 ∷ 162 ∷ 162 ∷ 162 ∷ 162 ∷ 162 ∷ 162 ∷ 198 ∷ 198 ∷ 198 ∷ 198 ∷ 198 ∷ 198 ∷ 198 ∷ 198 ∷ 198 ∷ 198 ∷ 198 ∷ 198 ∷ 198 ∷ 198 ∷ 198 ∷ 198 ∷ [])
unfolding line block vertical horizontal down_left down_right vertical_right horizontal_down vertical_left horizontal_up mean mean_of_sides chroma_beside chroma_means smoothed tilt sum_below slope plane_at edge4 edge8 from_edge predicted16 predicted_chroma
row8_1_left = refl

row8_mean_above_alone : predicted8 2 (near8 above_alone) ≡ (116 ∷ 116 ∷ 116 ∷ 116 ∷ 116 ∷ 116 ∷ 116 ∷ 116 ∷ 116 ∷ 116 ∷ 116 ∷ 116 ∷ 116 ∷ 116 ∷ 116 ∷ 116 ∷ 116 ∷ 116 ∷ 116 ∷ 116 ∷ 116 ∷ 116 ∷ 116 ∷ 116 ∷ 116 ∷ 116 ∷ 116 ∷ 116 ∷ 116 ∷ 116 ∷ 116 ∷ 116 ∷ 116 ∷ 116 ∷ 116 ∷ 116 ∷ 116 ∷ 116 ∷ 116 ∷ 116 ∷ 116 ∷ 116 ∷ 116 ∷ 116 ∷ 116 ∷ 116 ∷ 116 ∷ 116 ∷ 116 ∷ 116 ∷ 116 ∷ 116 ∷ 116 ∷ 116 ∷ 116 ∷ 116 ∷ 116 ∷ 116 ∷ 116 ∷ 116 ∷ 116 ∷ 116 ∷ 116 ∷ 116 ∷ [])
unfolding line block vertical horizontal down_left down_right vertical_right horizontal_down vertical_left horizontal_up mean mean_of_sides chroma_beside chroma_means smoothed tilt sum_below slope plane_at edge4 edge8 from_edge predicted16 predicted_chroma
row8_mean_above_alone = refl

row8_mean_left_alone : predicted8 2 (near8 left_alone) ≡ (175 ∷ 175 ∷ 175 ∷ 175 ∷ 175 ∷ 175 ∷ 175 ∷ 175 ∷ 175 ∷ 175 ∷ 175 ∷ 175 ∷ 175 ∷ 175 ∷ 175 ∷ 175 ∷ 175 ∷ 175 ∷ 175 ∷ 175 ∷ 175 ∷ 175 ∷ 175 ∷ 175 ∷ 175 ∷ 175 ∷ 175 ∷ 175 ∷ 175 ∷ 175 ∷ 175 ∷ 175 ∷ 175 ∷ 175 ∷ 175 ∷ 175 ∷ 175 ∷ 175 ∷ 175 ∷ 175 ∷ 175 ∷ 175 ∷ 175 ∷ 175 ∷ 175 ∷ 175 ∷ 175 ∷ 175 ∷ 175 ∷ 175 ∷ 175 ∷ 175 ∷ 175 ∷ 175 ∷ 175 ∷ 175 ∷ 175 ∷ 175 ∷ 175 ∷ 175 ∷ 175 ∷ 175 ∷ 175 ∷ 175 ∷ [])
unfolding line block vertical horizontal down_left down_right vertical_right horizontal_down vertical_left horizontal_up mean mean_of_sides chroma_beside chroma_means smoothed tilt sum_below slope plane_at edge4 edge8 from_edge predicted16 predicted_chroma
row8_mean_left_alone = refl

row8_mean_nowhere : predicted8 2 (near8 nowhere) ≡ (128 ∷ 128 ∷ 128 ∷ 128 ∷ 128 ∷ 128 ∷ 128 ∷ 128 ∷ 128 ∷ 128 ∷ 128 ∷ 128 ∷ 128 ∷ 128 ∷ 128 ∷ 128 ∷ 128 ∷ 128 ∷ 128 ∷ 128 ∷ 128 ∷ 128 ∷ 128 ∷ 128 ∷ 128 ∷ 128 ∷ 128 ∷ 128 ∷ 128 ∷ 128 ∷ 128 ∷ 128 ∷ 128 ∷ 128 ∷ 128 ∷ 128 ∷ 128 ∷ 128 ∷ 128 ∷ 128 ∷ 128 ∷ 128 ∷ 128 ∷ 128 ∷ 128 ∷ 128 ∷ 128 ∷ 128 ∷ 128 ∷ 128 ∷ 128 ∷ 128 ∷ 128 ∷ 128 ∷ 128 ∷ 128 ∷ 128 ∷ 128 ∷ 128 ∷ 128 ∷ 128 ∷ 128 ∷ 128 ∷ 128 ∷ [])
unfolding line block vertical horizontal down_left down_right vertical_right horizontal_down vertical_left horizontal_up mean mean_of_sides chroma_beside chroma_means smoothed tilt sum_below slope plane_at edge4 edge8 from_edge predicted16 predicted_chroma
row8_mean_nowhere = refl

abbrev near16 : Avail → Nb16
near16 avail = record { above = 40 ∷ 53 ∷ 66 ∷ 79 ∷ 92 ∷ 105 ∷ 118 ∷ 131 ∷ 144 ∷ 157 ∷ 170 ∷ 183 ∷ 196 ∷ 209 ∷ 222 ∷ 235 ∷ []; left = 200 ∷ 193 ∷ 186 ∷ 179 ∷ 172 ∷ 165 ∷ 158 ∷ 151 ∷ 144 ∷ 137 ∷ 130 ∷ 123 ∷ 116 ∷ 109 ∷ 102 ∷ 95 ∷ []; corner = 120; avail = avail }

plane16_0 : slice_index (predicted16 3 (near16 everywhere)) 0 ≡ 124
unfolding line block vertical horizontal down_left down_right vertical_right horizontal_down vertical_left horizontal_up mean mean_of_sides chroma_beside chroma_means smoothed tilt sum_below slope plane_at edge4 edge8 from_edge predicted16 predicted_chroma
plane16_0 = refl

plane16_15 : slice_index (predicted16 3 (near16 everywhere)) 15 ≡ 255
unfolding line block vertical horizontal down_left down_right vertical_right horizontal_down vertical_left horizontal_up mean mean_of_sides chroma_beside chroma_means smoothed tilt sum_below slope plane_at edge4 edge8 from_edge predicted16 predicted_chroma
plane16_15 = refl

plane16_100 : slice_index (predicted16 3 (near16 everywhere)) 100 ≡ 137
unfolding line block vertical horizontal down_left down_right vertical_right horizontal_down vertical_left horizontal_up mean mean_of_sides chroma_beside chroma_means smoothed tilt sum_below slope plane_at edge4 edge8 from_edge predicted16 predicted_chroma
plane16_100 = refl

plane16_240 : slice_index (predicted16 3 (near16 everywhere)) 240 ≡ 45
unfolding line block vertical horizontal down_left down_right vertical_right horizontal_down vertical_left horizontal_up mean mean_of_sides chroma_beside chroma_means smoothed tilt sum_below slope plane_at edge4 edge8 from_edge predicted16 predicted_chroma
plane16_240 = refl

plane16_255 : slice_index (predicted16 3 (near16 everywhere)) 255 ≡ 212
unfolding line block vertical horizontal down_left down_right vertical_right horizontal_down vertical_left horizontal_up mean mean_of_sides chroma_beside chroma_means smoothed tilt sum_below slope plane_at edge4 edge8 from_edge predicted16 predicted_chroma
plane16_255 = refl

mean16_everywhere : slice_index (predicted16 2 (near16 everywhere)) 77 ≡ 143
unfolding line block vertical horizontal down_left down_right vertical_right horizontal_down vertical_left horizontal_up mean mean_of_sides chroma_beside chroma_means smoothed tilt sum_below slope plane_at edge4 edge8 from_edge predicted16 predicted_chroma
mean16_everywhere = refl

mean16_not_beyond : slice_index (predicted16 2 (near16 not_beyond)) 77 ≡ 143
unfolding line block vertical horizontal down_left down_right vertical_right horizontal_down vertical_left horizontal_up mean mean_of_sides chroma_beside chroma_means smoothed tilt sum_below slope plane_at edge4 edge8 from_edge predicted16 predicted_chroma
mean16_not_beyond = refl

mean16_above_alone : slice_index (predicted16 2 (near16 above_alone)) 77 ≡ 138
unfolding line block vertical horizontal down_left down_right vertical_right horizontal_down vertical_left horizontal_up mean mean_of_sides chroma_beside chroma_means smoothed tilt sum_below slope plane_at edge4 edge8 from_edge predicted16 predicted_chroma
mean16_above_alone = refl

mean16_left_alone : slice_index (predicted16 2 (near16 left_alone)) 77 ≡ 148
unfolding line block vertical horizontal down_left down_right vertical_right horizontal_down vertical_left horizontal_up mean mean_of_sides chroma_beside chroma_means smoothed tilt sum_below slope plane_at edge4 edge8 from_edge predicted16 predicted_chroma
mean16_left_alone = refl

mean16_nowhere : slice_index (predicted16 2 (near16 nowhere)) 77 ≡ 128
unfolding line block vertical horizontal down_left down_right vertical_right horizontal_down vertical_left horizontal_up mean mean_of_sides chroma_beside chroma_means smoothed tilt sum_below slope plane_at edge4 edge8 from_edge predicted16 predicted_chroma
mean16_nowhere = refl

abbrev near_chroma : Avail → NbC
near_chroma avail = record { above = 3 ∷ 90 ∷ 250 ∷ 17 ∷ 66 ∷ 4 ∷ 201 ∷ 9 ∷ []; left = 30 ∷ 111 ∷ 2 ∷ 240 ∷ 8 ∷ 77 ∷ 163 ∷ 29 ∷ []; corner = 55; avail = avail }

row_chroma_0 : predicted_chroma 0 (near_chroma everywhere) ≡ (93 ∷ 93 ∷ 93 ∷ 93 ∷ 70 ∷ 70 ∷ 70 ∷ 70 ∷ 93 ∷ 93 ∷ 93 ∷ 93 ∷ 70 ∷ 70 ∷ 70 ∷ 70 ∷ 93 ∷ 93 ∷ 93 ∷ 93 ∷ 70 ∷ 70 ∷ 70 ∷ 70 ∷ 93 ∷ 93 ∷ 93 ∷ 93 ∷ 70 ∷ 70 ∷ 70 ∷ 70 ∷ 69 ∷ 69 ∷ 69 ∷ 69 ∷ 70 ∷ 70 ∷ 70 ∷ 70 ∷ 69 ∷ 69 ∷ 69 ∷ 69 ∷ 70 ∷ 70 ∷ 70 ∷ 70 ∷ 69 ∷ 69 ∷ 69 ∷ 69 ∷ 70 ∷ 70 ∷ 70 ∷ 70 ∷ 69 ∷ 69 ∷ 69 ∷ 69 ∷ 70 ∷ 70 ∷ 70 ∷ 70 ∷ [])
unfolding line block vertical horizontal down_left down_right vertical_right horizontal_down vertical_left horizontal_up mean mean_of_sides chroma_beside chroma_means smoothed tilt sum_below slope plane_at edge4 edge8 from_edge predicted16 predicted_chroma
row_chroma_0 = refl

row_chroma_1 : predicted_chroma 1 (near_chroma everywhere) ≡ (30 ∷ 30 ∷ 30 ∷ 30 ∷ 30 ∷ 30 ∷ 30 ∷ 30 ∷ 111 ∷ 111 ∷ 111 ∷ 111 ∷ 111 ∷ 111 ∷ 111 ∷ 111 ∷ 2 ∷ 2 ∷ 2 ∷ 2 ∷ 2 ∷ 2 ∷ 2 ∷ 2 ∷ 240 ∷ 240 ∷ 240 ∷ 240 ∷ 240 ∷ 240 ∷ 240 ∷ 240 ∷ 8 ∷ 8 ∷ 8 ∷ 8 ∷ 8 ∷ 8 ∷ 8 ∷ 8 ∷ 77 ∷ 77 ∷ 77 ∷ 77 ∷ 77 ∷ 77 ∷ 77 ∷ 77 ∷ 163 ∷ 163 ∷ 163 ∷ 163 ∷ 163 ∷ 163 ∷ 163 ∷ 163 ∷ 29 ∷ 29 ∷ 29 ∷ 29 ∷ 29 ∷ 29 ∷ 29 ∷ 29 ∷ [])
unfolding line block vertical horizontal down_left down_right vertical_right horizontal_down vertical_left horizontal_up mean mean_of_sides chroma_beside chroma_means smoothed tilt sum_below slope plane_at edge4 edge8 from_edge predicted16 predicted_chroma
row_chroma_1 = refl

row_chroma_2 : predicted_chroma 2 (near_chroma everywhere) ≡ (3 ∷ 90 ∷ 250 ∷ 17 ∷ 66 ∷ 4 ∷ 201 ∷ 9 ∷ 3 ∷ 90 ∷ 250 ∷ 17 ∷ 66 ∷ 4 ∷ 201 ∷ 9 ∷ 3 ∷ 90 ∷ 250 ∷ 17 ∷ 66 ∷ 4 ∷ 201 ∷ 9 ∷ 3 ∷ 90 ∷ 250 ∷ 17 ∷ 66 ∷ 4 ∷ 201 ∷ 9 ∷ 3 ∷ 90 ∷ 250 ∷ 17 ∷ 66 ∷ 4 ∷ 201 ∷ 9 ∷ 3 ∷ 90 ∷ 250 ∷ 17 ∷ 66 ∷ 4 ∷ 201 ∷ 9 ∷ 3 ∷ 90 ∷ 250 ∷ 17 ∷ 66 ∷ 4 ∷ 201 ∷ 9 ∷ 3 ∷ 90 ∷ 250 ∷ 17 ∷ 66 ∷ 4 ∷ 201 ∷ 9 ∷ [])
unfolding line block vertical horizontal down_left down_right vertical_right horizontal_down vertical_left horizontal_up mean mean_of_sides chroma_beside chroma_means smoothed tilt sum_below slope plane_at edge4 edge8 from_edge predicted16 predicted_chroma
row_chroma_2 = refl

row_chroma_3 : predicted_chroma 3 (near_chroma everywhere) ≡ (5 ∷ 6 ∷ 6 ∷ 7 ∷ 8 ∷ 9 ∷ 10 ∷ 11 ∷ 9 ∷ 9 ∷ 10 ∷ 11 ∷ 12 ∷ 13 ∷ 14 ∷ 15 ∷ 12 ∷ 13 ∷ 14 ∷ 15 ∷ 16 ∷ 17 ∷ 18 ∷ 19 ∷ 16 ∷ 17 ∷ 18 ∷ 19 ∷ 20 ∷ 21 ∷ 22 ∷ 23 ∷ 20 ∷ 21 ∷ 22 ∷ 23 ∷ 24 ∷ 25 ∷ 26 ∷ 27 ∷ 24 ∷ 25 ∷ 26 ∷ 27 ∷ 28 ∷ 29 ∷ 29 ∷ 30 ∷ 28 ∷ 29 ∷ 30 ∷ 31 ∷ 32 ∷ 32 ∷ 33 ∷ 34 ∷ 32 ∷ 33 ∷ 34 ∷ 35 ∷ 35 ∷ 36 ∷ 37 ∷ 38 ∷ [])
unfolding line block vertical horizontal down_left down_right vertical_right horizontal_down vertical_left horizontal_up mean mean_of_sides chroma_beside chroma_means smoothed tilt sum_below slope plane_at edge4 edge8 from_edge predicted16 predicted_chroma
row_chroma_3 = refl

row_chroma_mean_above_alone : predicted_chroma 0 (near_chroma above_alone) ≡ (90 ∷ 90 ∷ 90 ∷ 90 ∷ 70 ∷ 70 ∷ 70 ∷ 70 ∷ 90 ∷ 90 ∷ 90 ∷ 90 ∷ 70 ∷ 70 ∷ 70 ∷ 70 ∷ 90 ∷ 90 ∷ 90 ∷ 90 ∷ 70 ∷ 70 ∷ 70 ∷ 70 ∷ 90 ∷ 90 ∷ 90 ∷ 90 ∷ 70 ∷ 70 ∷ 70 ∷ 70 ∷ 90 ∷ 90 ∷ 90 ∷ 90 ∷ 70 ∷ 70 ∷ 70 ∷ 70 ∷ 90 ∷ 90 ∷ 90 ∷ 90 ∷ 70 ∷ 70 ∷ 70 ∷ 70 ∷ 90 ∷ 90 ∷ 90 ∷ 90 ∷ 70 ∷ 70 ∷ 70 ∷ 70 ∷ 90 ∷ 90 ∷ 90 ∷ 90 ∷ 70 ∷ 70 ∷ 70 ∷ 70 ∷ [])
unfolding line block vertical horizontal down_left down_right vertical_right horizontal_down vertical_left horizontal_up mean mean_of_sides chroma_beside chroma_means smoothed tilt sum_below slope plane_at edge4 edge8 from_edge predicted16 predicted_chroma
row_chroma_mean_above_alone = refl

row_chroma_mean_left_alone : predicted_chroma 0 (near_chroma left_alone) ≡ (96 ∷ 96 ∷ 96 ∷ 96 ∷ 96 ∷ 96 ∷ 96 ∷ 96 ∷ 96 ∷ 96 ∷ 96 ∷ 96 ∷ 96 ∷ 96 ∷ 96 ∷ 96 ∷ 96 ∷ 96 ∷ 96 ∷ 96 ∷ 96 ∷ 96 ∷ 96 ∷ 96 ∷ 96 ∷ 96 ∷ 96 ∷ 96 ∷ 96 ∷ 96 ∷ 96 ∷ 96 ∷ 69 ∷ 69 ∷ 69 ∷ 69 ∷ 69 ∷ 69 ∷ 69 ∷ 69 ∷ 69 ∷ 69 ∷ 69 ∷ 69 ∷ 69 ∷ 69 ∷ 69 ∷ 69 ∷ 69 ∷ 69 ∷ 69 ∷ 69 ∷ 69 ∷ 69 ∷ 69 ∷ 69 ∷ 69 ∷ 69 ∷ 69 ∷ 69 ∷ 69 ∷ 69 ∷ 69 ∷ 69 ∷ [])
unfolding line block vertical horizontal down_left down_right vertical_right horizontal_down vertical_left horizontal_up mean mean_of_sides chroma_beside chroma_means smoothed tilt sum_below slope plane_at edge4 edge8 from_edge predicted16 predicted_chroma
row_chroma_mean_left_alone = refl

row_chroma_mean_nowhere : predicted_chroma 0 (near_chroma nowhere) ≡ (128 ∷ 128 ∷ 128 ∷ 128 ∷ 128 ∷ 128 ∷ 128 ∷ 128 ∷ 128 ∷ 128 ∷ 128 ∷ 128 ∷ 128 ∷ 128 ∷ 128 ∷ 128 ∷ 128 ∷ 128 ∷ 128 ∷ 128 ∷ 128 ∷ 128 ∷ 128 ∷ 128 ∷ 128 ∷ 128 ∷ 128 ∷ 128 ∷ 128 ∷ 128 ∷ 128 ∷ 128 ∷ 128 ∷ 128 ∷ 128 ∷ 128 ∷ 128 ∷ 128 ∷ 128 ∷ 128 ∷ 128 ∷ 128 ∷ 128 ∷ 128 ∷ 128 ∷ 128 ∷ 128 ∷ 128 ∷ 128 ∷ 128 ∷ 128 ∷ 128 ∷ 128 ∷ 128 ∷ 128 ∷ 128 ∷ 128 ∷ 128 ∷ 128 ∷ 128 ∷ 128 ∷ 128 ∷ 128 ∷ 128 ∷ [])
unfolding line block vertical horizontal down_left down_right vertical_right horizontal_down vertical_left horizontal_up mean mean_of_sides chroma_beside chroma_means smoothed tilt sum_below slope plane_at edge4 edge8 from_edge predicted16 predicted_chroma
row_chroma_mean_nowhere = refl

-- a macroblock with all neighbours: which 4x4 and 8x8 blocks have samples above at the right
beyond : ℕ → ℕ → Bool
beyond n b = (block_avail n everywhere (block_column b) (block_row b)).above_right

blocks4_beyond : map (beyond 4) (range_with_len 0 16) ≡
    (true ∷ true ∷ true ∷ false ∷ true ∷ true ∷ true ∷ false ∷ true ∷ true ∷ true ∷ false ∷ true ∷ false ∷ true ∷ false ∷ [])
unfolding beyond
blocks4_beyond = refl

blocks8_beyond : map (beyond 2) (range_with_len 0 4) ≡ (true ∷ true ∷ true ∷ false ∷ [])
unfolding beyond
blocks8_beyond = refl

-- without the macroblock above at the right block 5 has none either
corner_block : (block_avail 4 not_beyond (block_column 5) (block_row 5)).above_right ≡ false
corner_block = refl

numbers : map (λ b. block_number (block_column b) (block_row b)) (range_with_len 0 16) ≡ range_with_len 0 16
numbers = refl

-- a picture of 4 by 3 macroblocks, and a slice from macroblock 4 on: its first row has nothing above
first_of_slice : macroblock_avail 4 4 4 ≡ (record { left = false; above = false; corner = false; above_right = false })
first_of_slice = refl

in_first_row : macroblock_avail 4 4 5 ≡ (record { left = true; above = false; corner = false; above_right = false })
in_first_row = refl

in_second_row : macroblock_avail 4 4 9 ≡ (record { left = true; above = true; corner = true; above_right = true })
in_second_row = refl

last_of_row : macroblock_avail 4 4 11 ≡ (record { left = true; above = true; corner = true; above_right = false })
last_of_row = refl

-- a slice that begins inside a row
inside_row : macroblock_avail 4 2 5 ≡ (record { left = true; above = false; corner = false; above_right = true })
inside_row = refl
