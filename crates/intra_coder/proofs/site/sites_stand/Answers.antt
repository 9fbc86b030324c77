use Rattle.intra_coder.proofs.Standing.{stands_in}
use Rattle.intra_coder.proofs.site.sites_stand.Goals as goal

pub returns : goal.returns
returns c width rows row top address qp plane wide begins behind inside w h = stands_in width rows row top address qp plane wide begins behind inside w h
