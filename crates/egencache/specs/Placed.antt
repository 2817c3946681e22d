-- Places and requests as the code reads them, as what they are.
use Rattle.ebuild_names.specs.declared.path.EbuildPath.{EbuildPath}
use Rattle.egencache.specs.declared.request.Parts as code
use Rattle.egencache.specs.declared.request.Request as read
use Rattle.egencache.specs.Request.{Request}

abbrev pub placed : code.Parts → EbuildPath
placed parts = record { category = parts.category.now; «package» = parts.name.now; file = parts.file.now }

abbrev pub requested : read.Request → Request
requested request = record { path = request.path; at = request.at.now; place = request.place }
