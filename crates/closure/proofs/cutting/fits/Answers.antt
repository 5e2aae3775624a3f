use Rattle.closure.proofs.laws.Cutting.{fit_tests}
use Rattle.closure.proofs.cutting.fits.Goals as goal

pub returns-then-d-room : goal.returns-then-d-room
returns-then-d-room c = search fit_tests

pub returns-else-d-room : goal.returns-else-d-room
returns-else-d-room c = search fit_tests
